-- The lines of a plain text's clauses, and what is read of them.
use Rattle.std.proofs.Common.{◌≡◌, ℕ, ◌<◌, ◌≤◌, ◌^◌, ◌+◌, ◌==◌, Bool, false, List, [], ◌∷◌, ◌++◌, length, Ok, All, refl, sym, ap, ◌∙◌}
use Rattle.std.proofs.Common.{arith, append_assoc, append-nil, length-append}
use Rattle.std.specs.Prelude.{map, codes, flat_map, bytes_eq, ◌&&◌}
use Rattle.std.specs.Int.{IsInRange}
use Rattle.std.proofs.lemmas.Bool.{ne_eqb, le-ltb, lt-leb}
use Rattle.std.proofs.lemmas.List.Elements.{All-head, All-tail}
use Rattle.std.proofs.lemmas.List.Sums.{sum_by-cons}
use Rattle.cnf_core.specs.Literals.{Literal, Literals, IsWithin, AreWithin}
use Rattle.cnf_core.specs.Formulas.{Cnf, with_clause, literal_count}
use Rattle.cnf_core.specs.Spelling.{literal_text}
use Rattle.dimacs_reader.specs.Pieces.{Piece, Line, is_line_feed, is_blank, pieces, line_of}
use Rattle.dimacs_reader.specs.Reading.{◌>>=◌, bytes_begin_with, begins_with, begins_as, is_show, says_nothing, Partial, literal}
use Rattle.dimacs_reader.specs.Reading.{literal_from, token, tokens, clause_lines}
use Rattle.dimacs_reader.specs.PlainText.{clause_line}
use Rattle.dimacs_reader.proofs.PlainPieces.{NonePass, NonePass-append, piece, pieces_cut}
use Rattle.dimacs_reader.proofs.PlainNumbers.{NonePass-literal_text, length-literal_text, literal_of-literal_text}
use Rattle.dimacs_reader.proofs.PlainLines.{words, words_more}

-- what was read of the clauses
abbrev pub partial : Cnf → Literals → ℕ → Partial
partial F done count = record { formula = F; clause = done; literals = count }

-- a clause's line without its line feed
abbrev pub clause_bytes : Literals → List ℕ
clause_bytes c = flat_map (λ l. literal_text l ++ codes " ") c ++ codes "0"

clause_bytes-cons : (l : Literal) (ls : Literals) → clause_bytes (l ∷ ls) ≡ literal_text l ++ 32 ∷ clause_bytes ls
clause_bytes-cons l ls = simp append_assoc

-- the test takes none of the bytes of a printed number
abbrev pub SparesNumbers : (ℕ → Bool) → Type 0
SparesNumbers test = (b : ℕ) → 45 ≤ b → b ≤ 57 → test b ≡ false

literal_spared : (test : ℕ → Bool) (n : ℕ) (l : Literal) → SparesNumbers test → n ≤ 2 ^ 20 → IsWithin n l
    → NonePass test (literal_text l)
literal_spared test n l spares small within =
    let digits = λ (b : ℕ) (range : IsInRange 48 57 b). spares b (omega arith) (omega arith) in
    NonePass-literal_text test l.var l.positive digits (spares 45 (omega arith) (omega arith)) (omega arith) (omega arith)

literal_filled : (n : ℕ) (l : Literal) → n ≤ 2 ^ 20 → IsWithin n l → 0 < length (literal_text l)
literal_filled n l small within = length-literal_text l.var l.positive (omega arith) (omega arith)

pub no_blank : SparesNumbers is_blank
no_blank b low high = rw (ne_eqb b 32 (λ e. omega arith), ne_eqb b 9 (λ e. omega arith), ne_eqb b 13 (λ e. omega arith))

pub no_line_feed : SparesNumbers is_line_feed
no_line_feed b low high = ne_eqb b 10 (λ e. omega arith)

pub clause_words : (place n : ℕ) (l : Literal) (ls : Literals) → n ≤ 2 ^ 20 → IsWithin n l
    → words place (clause_bytes (l ∷ ls)) ≡ piece place (literal_text l) ∷ words (place + (length (literal_text l) + 1)) (clause_bytes ls)
clause_words place n l ls small within =
    ap (words place) (clause_bytes-cons l ls)
    ∙ words_more place (literal_text l) (clause_bytes ls) (literal_filled n l small within)
    (literal_spared is_blank n l no_blank small within)

pub clause_is_one_line : (n : ℕ) (c : Literals) → n ≤ 2 ^ 20 → AreWithin n c → NonePass is_line_feed (clause_bytes c)
clause_is_one_line n [] small within = (refl, tt)
clause_is_one_line n (l ∷ ls) small within =
    rw (clause_bytes-cons l ls)
    (NonePass-append is_line_feed (literal_text l) (32 ∷ clause_bytes ls)
    (literal_spared is_line_feed n l no_line_feed small (All-head (IsWithin n) l ls within))
    (refl, clause_is_one_line n ls small (All-tail (IsWithin n) l ls within)))

-- a literal's token
literal_within : (place : ℕ) (F : Cnf) (done : Literals) (k : ℕ) (l : Literal) → IsWithin F.vars l → k < 2 ^ 23
    → literal (partial F done k) place l ≡ Ok (partial F (done ++ l ∷ []) (k + 1))
literal_within place F done k l within small =
    rw (ne_eqb l.var 0 (λ e. omega arith), le-ltb F.vars l.var within.high, lt-leb (2 ^ 23) k small)

token_literal : (count place : ℕ) (F : Cnf) (done : Literals) (k : ℕ) (l : Literal)
    → length F.clauses < count → F.vars ≤ 2 ^ 20 → IsWithin F.vars l → k < 2 ^ 23
    → token count (partial F done k) (piece place (literal_text l)) ≡ Ok (partial F (done ++ l ∷ []) (k + 1))
token_literal count place F done k l room limit within small =
    rw (lt-leb count (length F.clauses) room)
    (ap (literal_from (partial F done k) place) (literal_of-literal_text l.var l.positive (omega arith) (omega arith))
    ∙ literal_within place F done k l within small)

-- the tokens of a clause's line
clause_tokens : (count place : ℕ) (F : Cnf) (done c : Literals) (k : ℕ)
    → length F.clauses < count → F.vars ≤ 2 ^ 20 → AreWithin F.vars c → k + length c ≤ 2 ^ 23
    → tokens count (partial F done k) (words place (clause_bytes c))
    ≡ Ok (partial (with_clause F (done ++ c)) [] (k + length c))
clause_tokens count place F done [] k room limit within small =
    rw (lt-leb count (length F.clauses) room)
    (ap (λ c. Ok (partial (with_clause F c) [] k)) (sym (append-nil done))
    ∙ ap (λ n. Ok (partial (with_clause F (done ++ [])) [] n)) (omega arith))
clause_tokens count place F done (l ∷ ls) k room limit within small =
    let here = All-head (IsWithin F.vars) l ls within in
    let after = place + (length (literal_text l) + 1) in
    ap (tokens count (partial F done k)) (clause_words place F.vars l ls limit here)
    ∙ ap (λ r. r >>= λ b. tokens count b (words after (clause_bytes ls)))
    (token_literal count place F done k l room limit here (omega arith))
    ∙ clause_tokens count after F (done ++ l ∷ []) ls (k + 1) room limit (All-tail (IsWithin F.vars) l ls within) (omega arith)
    ∙ ap (λ c. Ok (partial (with_clause F c) [] (k + 1 + length ls))) (append_assoc done (l ∷ []) ls)
    ∙ ap (λ n. Ok (partial (with_clause F (done ++ l ∷ ls)) [] n)) (omega arith)

-- a clause's line says something, and does not end the clauses
first_byte : (b : ℕ) (bs : List ℕ) → NonePass (λ x. x == b) bs → bytes_begin_with b bs ≡ false
first_byte b [] none = refl
first_byte b (c ∷ cs) none = none.0

clause_says : (place n : ℕ) (c : Literals) → n ≤ 2 ^ 20 → AreWithin n c → says_nothing (words place (clause_bytes c)) ≡ false
clause_says place n [] small within = refl
clause_says place n (l ∷ ls) small within =
    let here = All-head (IsWithin n) l ls within in
    let spared = literal_spared (λ x. x == 99) n l (λ b low high. ne_eqb b 99 (λ e. omega arith)) small here in
    ap says_nothing (clause_words place n l ls small here) ∙ first_byte 99 (literal_text l) spared

clause_goes_on : (place n : ℕ) (c : Literals) → n ≤ 2 ^ 20 → AreWithin n c → begins_with 37 (words place (clause_bytes c)) ≡ false
clause_goes_on place n [] small within = refl
clause_goes_on place n (l ∷ ls) small within =
    let here = All-head (IsWithin n) l ls within in
    let spared = literal_spared (λ x. x == 37) n l (λ b low high. ne_eqb b 37 (λ e. omega arith)) small here in
    ap (begins_with 37) (clause_words place n l ls small here) ∙ first_byte 37 (literal_text l) spared

-- a line that says something is no show line
c_first : (y : Bool) (bytes : List ℕ) → bytes_begin_with 99 bytes ≡ false → bytes_eq bytes (codes "c") && y ≡ false
c_first y [] none = refl
c_first y (b ∷ bs) none = rw none refl

shows_none : (ts : List Piece) → says_nothing ts ≡ false → is_show ts ≡ false
shows_none [] says = refl
shows_none (t ∷ ts) says = c_first (begins_as (codes "p" ∷ codes "show" ∷ []) ts) t.bytes says

line_read : (count end : ℕ) (l : Line) (ls : List Line) (b : Partial) → says_nothing l.tokens ≡ false
    → begins_with 37 l.tokens ≡ false
    → clause_lines count end (l ∷ ls) b ≡ (tokens count b l.tokens >>= clause_lines count end ls)
line_read count end l ls b says goes_on = rw (shows_none l.tokens says, says, goes_on)

abbrev pub lines_from : ℕ → List ℕ → List Line
lines_from place bs = map line_of (pieces is_line_feed (piece place bs))

-- the first clause's line, and the lines behind it
clauses_cut : (n place : ℕ) (c : Literals) (cs : List Literals) → n ≤ 2 ^ 20 → AreWithin n c
    → lines_from place (flat_map clause_line (c ∷ cs))
    ≡ line_of (piece place (clause_bytes c)) ∷ lines_from (place + (length (clause_bytes c) + 1)) (flat_map clause_line cs)
clauses_cut n place c cs limit within =
    let front = flat_map (λ l. literal_text l ++ codes " ") c in
    let rest = flat_map clause_line cs in
    ap (lines_from place) (append_assoc front (codes "0\n") rest ∙ sym (append_assoc front (codes "0") (10 ∷ rest)))
    ∙ ap (map line_of) (pieces_cut is_line_feed place (clause_bytes c) 10 rest (clause_is_one_line n c limit within) refl)

pub clauses_read : (count end place : ℕ) (F : Cnf) (k : ℕ) (cs : List Literals)
    → length F.clauses + length cs ≡ count → F.vars ≤ 2 ^ 20 → All (AreWithin F.vars) cs → k + literal_count cs ≤ 2 ^ 23
    → clause_lines count end (lines_from place (flat_map clause_line cs)) (partial F [] k)
    ≡ Ok (record F { clauses = F.clauses ++ cs })
clauses_read count end place F k [] all limit within small =
    rw (le-ltb (length F.clauses) count (omega arith))
    (ap (λ cs. Ok (record F { clauses = cs })) (sym (append-nil F.clauses)))
clauses_read count end place F k (c ∷ cs) all limit within small =
    let here = All-head (AreWithin F.vars) c cs within in
    let behind = All-tail (AreWithin F.vars) c cs within in
    let after = place + (length (clause_bytes c) + 1) in
    let rest = lines_from after (flat_map clause_line cs) in
    let total = sum_by-cons length c cs in
    let more = length-append F.clauses (c ∷ []) in
    ap (λ ls. clause_lines count end ls (partial F [] k)) (clauses_cut F.vars place c cs limit here)
    ∙ line_read count end (line_of (piece place (clause_bytes c))) rest (partial F [] k)
    (clause_says place F.vars c limit here) (clause_goes_on place F.vars c limit here)
    ∙ ap (λ r. r >>= clause_lines count end rest) (clause_tokens count place F [] c k (omega arith) limit here (omega arith))
    ∙ clauses_read count end after (with_clause F c) (k + length c) cs (omega arith) limit behind (omega arith)
    ∙ ap (λ ds. Ok (record F { clauses = ds })) (append_assoc F.clauses (c ∷ []) cs)
