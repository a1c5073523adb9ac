-- The show line of a plain text, and what is read of it.
use Rattle.std.proofs.Common.{◌≡◌, ℕ, ◌<◌, ◌≤◌, ◌^◌, ◌+◌, ◌-◌, true, false, List, [], ◌∷◌, ◌++◌, length, replicate}
use Rattle.std.proofs.Common.{suc, Option, Some, None, Ok, All, refl, sym, ap, ◌∙◌, arith, append_assoc, length-append}
use Rattle.std.specs.Prelude.{map, codes, decimal, flat_map, slice_set}
use Rattle.std.proofs.Math.Seq.{set-append_seam}
use Rattle.std.proofs.lemmas.Bool.{ne_eqb, le-ltb}
use Rattle.std.proofs.lemmas.List.Elements.{All-nil, All-cons}
use Rattle.cnf_core.specs.Literals.{Literal, Literals, Assignment, IsWithin, AreWithin}
use Rattle.cnf_core.specs.Formulas.{Cnf, empty_formula, literal_count, marks_of}
use Rattle.cnf_core.specs.Spelling.{literal_text, number_of_digits}
use Rattle.cnf_core.proofs.Numerals.{number_of_digits-decimal}
use Rattle.dimacs_reader.specs.Pieces.{Piece, Line, is_line_feed, is_blank, line_of}
use Rattle.dimacs_reader.specs.Reading.{◌>>=◌, show_number, show_tokens, restricting, Partial}
use Rattle.dimacs_reader.specs.Reading.{no_clauses, clause_lines}
use Rattle.dimacs_reader.specs.PlainText.{clause_line, marked_from, show_line}
use Rattle.dimacs_reader.proofs.PlainPieces.{NonePass, none_pass, NonePass-append, piece, pieces_cut}
use Rattle.dimacs_reader.proofs.PlainLines.{words, words_more}
use Rattle.dimacs_reader.proofs.PlainClauses.{partial, clause_bytes, clause_words, clause_is_one_line, lines_from, clauses_read}

-- the formula without clauses that shows the marked variables
abbrev marked : ℕ → Assignment → Cnf
marked n marks = record { vars = n; clauses = []; shown = Some marks }

abbrev positive : ℕ → Literal
positive v = record { var = v; positive = true }

marked_within : (n v : ℕ) (ms : Assignment) → 0 < v → v + length ms ≤ n + 1 → AreWithin n (marked_from v ms)
marked_within n v [] low high = All-nil (IsWithin n)
marked_within n v (true ∷ ms) low high =
    All-cons (IsWithin n) (positive v) (marked_from (v + 1) ms) (record { low = low; high = omega arith })
    (marked_within n (v + 1) ms (omega arith) (omega arith))
marked_within n v (false ∷ ms) low high = marked_within n (v + 1) ms (omega arith) (omega arith)

-- the marks before those that are still to come
abbrev marks_so_far : Assignment → ℕ → Assignment
marks_so_far done left = done ++ replicate left false

-- one mark more
mark_kept : (done : Assignment) (left : ℕ) → marks_so_far done (suc left) ≡ marks_so_far (done ++ false ∷ []) left
mark_kept done left = sym (append_assoc done (false ∷ []) (replicate left false))

mark_set : (done : Assignment) (left v : ℕ) → length done + 1 ≡ v
    → slice_set (marks_so_far done (suc left)) (v - 1) true ≡ marks_so_far (done ++ true ∷ []) left
mark_set done left v here =
    let at : v - 1 ≡ length done = omega (arith, here) in
    ap (λ i. slice_set (marks_so_far done (suc left)) i true) at
    ∙ set-append_seam done false (replicate left false) true
    ∙ sym (append_assoc done (true ∷ []) (replicate left false))

number_within : (n v place : ℕ) → v ≤ n → n ≤ 2 ^ 20 → show_number n place (number_of_digits (decimal v)) ≡ Ok v
number_within n v place within small = rw (number_of_digits-decimal v (omega arith), le-ltb n v within) refl

-- one variable's token
token_shown : (end place n v : ℕ) (marks : Assignment) (ts : List Piece) → 0 < v → v ≤ n → n ≤ 2 ^ 20
    → show_tokens end (partial (marked n marks) [] 0) (piece place (literal_text (positive v)) ∷ ts)
    ≡ show_tokens end (partial (marked n (slice_set marks (v - 1) true)) [] 0) ts
token_shown end place n v marks ts low within small =
    rw (number_within n v place within small, ne_eqb v 0 (λ e. omega arith)) refl

-- the tokens of the marked variables, and of the end
tokens_shown : (end place n v : ℕ) (done ms : Assignment) → n ≤ 2 ^ 20 → length done + 1 ≡ v → v + length ms ≤ n + 1
    → show_tokens end (partial (marked n (marks_so_far done (length ms))) [] 0) (words place (clause_bytes (marked_from v ms)))
    ≡ Ok (partial (marked n (done ++ ms)) [] 0)
tokens_shown end place n v done [] small here within = rw (le-ltb n 0 (omega arith)) refl
tokens_shown end place n v done (false ∷ ms) small here within =
    let next : length (done ++ false ∷ []) + 1 ≡ v + 1 = omega (arith, length-append done (false ∷ []), here) in
    ap (λ marks. show_tokens end (partial (marked n marks) [] 0) (words place (clause_bytes (marked_from (v + 1) ms))))
    (mark_kept done (length ms))
    ∙ tokens_shown end place n (v + 1) (done ++ false ∷ []) ms small next (omega arith)
    ∙ ap (λ marks. Ok (partial (marked n marks) [] 0)) (append_assoc done (false ∷ []) ms)
tokens_shown end place n v done (true ∷ ms) small here within =
    let next : length (done ++ true ∷ []) + 1 ≡ v + 1 = omega (arith, length-append done (true ∷ []), here) in
    let marks = marks_so_far done (suc (length ms)) in
    let after = place + (length (literal_text (positive v)) + 1) in
    let rest = words after (clause_bytes (marked_from (v + 1) ms)) in
    ap (show_tokens end (partial (marked n marks) [] 0))
    (clause_words place n (positive v) (marked_from (v + 1) ms) small (record { low = omega arith; high = omega arith }))
    ∙ token_shown end place n v marks rest (omega arith) (omega arith) small
    ∙ ap (λ marks. show_tokens end (partial (marked n marks) [] 0) rest) (mark_set done (length ms) v here)
    ∙ tokens_shown end after n (v + 1) (done ++ true ∷ []) ms small next (omega arith)
    ∙ ap (λ marks. Ok (partial (marked n marks) [] 0)) (append_assoc done (true ∷ []) ms)

-- the show line without its line feed
abbrev show_bytes : Literals → List ℕ
show_bytes c = codes "c p show " ++ clause_bytes c

show_is_one_line : (n : ℕ) (c : Literals) → n ≤ 2 ^ 20 → AreWithin n c → NonePass is_line_feed (show_bytes c)
show_is_one_line n c small within =
    NonePass-append is_line_feed (codes "c p show ") (clause_bytes c) (none_pass is_line_feed (codes "c p show ") refl)
    (clause_is_one_line n c small within)

show_words : (place : ℕ) (bs : List ℕ)
    → words place (codes "c" ++ 32 ∷ (codes "p" ++ 32 ∷ (codes "show" ++ 32 ∷ bs)))
    ≡ piece place (codes "c") ∷ piece (place + 2) (codes "p") ∷ piece (place + 2 + 2) (codes "show")
    ∷ words (place + 2 + 2 + 5) bs
show_words place bs =
    words_more place (codes "c") (codes "p" ++ 32 ∷ (codes "show" ++ 32 ∷ bs)) (omega arith) (none_pass is_blank (codes "c") refl)
    ∙ ap (λ ts. piece place (codes "c") ∷ ts)
    (words_more (place + 2) (codes "p") (codes "show" ++ 32 ∷ bs) (omega arith) (none_pass is_blank (codes "p") refl)
    ∙ ap (λ ts. piece (place + 2) (codes "p") ∷ ts)
    (words_more (place + 2 + 2) (codes "show") bs (omega arith) (none_pass is_blank (codes "show") refl)))

show_line_read : (count end e : ℕ) (ts : List Piece) (p q r : ℕ) (us : List Piece) (ls : List Line) (b : Partial)
    → ts ≡ piece p (codes "c") ∷ piece q (codes "p") ∷ piece r (codes "show") ∷ us
    → clause_lines count end (record { tokens = ts; end = e } ∷ ls) b
    ≡ (show_tokens e (restricting b) us >>= clause_lines count end ls)
show_line_read count end e ts p q r us ls b is = rw is refl

show_cut : (n place : ℕ) (c : Literals) (rest : List ℕ) → n ≤ 2 ^ 20 → AreWithin n c
    → lines_from place (codes "c p show " ++ clause_line c ++ rest)
    ≡ line_of (piece place (show_bytes c)) ∷ lines_from (place + (length (show_bytes c) + 1)) rest
show_cut n place c rest small within =
    let front = flat_map (λ l. literal_text l ++ codes " ") c in
    ap (λ bs. lines_from place (codes "c p show " ++ bs))
    (append_assoc front (codes "0\n") rest ∙ sym (append_assoc front (codes "0") (10 ∷ rest)))
    ∙ ap (map line_of) (pieces_cut is_line_feed place (show_bytes c) 10 rest (show_is_one_line n c small within) refl)

-- what stands behind the header, with a show line or without
pub behind_header : (count end place n : ℕ) (shown : Option Assignment) (cs : List Literals)
    → length cs ≡ count → n ≤ 2 ^ 20 → All (AreWithin n) cs → literal_count cs ≤ 2 ^ 23 → length (marks_of n shown) ≡ n
    → clause_lines count end (lines_from place (show_line shown ++ flat_map clause_line cs)) (no_clauses n)
    ≡ Ok (record { vars = n; clauses = cs; shown = shown })
behind_header count end place n None cs all small within few marks =
    clauses_read count end place (empty_formula n) 0 cs (omega arith) small within (omega arith)
behind_header count end place n (Some ms) cs all small within few marks =
    let c = marked_from 1 ms in
    let c_within = marked_within n 1 ms (omega arith) (omega (arith, marks)) in
    let rest = flat_map clause_line cs in
    let line = show_bytes c in
    let after = place + (length line + 1) in
    ap (λ ls. clause_lines count end ls (no_clauses n)) (show_cut n place c rest small c_within)
    ∙ show_line_read count end (place + length line) (words place line) place (place + 2) (place + 2 + 2)
    (words (place + 2 + 2 + 5) (clause_bytes c)) (lines_from after rest) (no_clauses n) (show_words place (clause_bytes c))
    ∙ ap (λ left. show_tokens (place + length line) (partial (marked n (replicate left false)) [] 0)
    (words (place + 2 + 2 + 5) (clause_bytes c)) >>= clause_lines count end (lines_from after rest)) (sym marks)
    ∙ ap (λ r. r >>= clause_lines count end (lines_from after rest))
    (tokens_shown (place + length line) (place + 2 + 2 + 5) n 1 [] ms small refl (omega (arith, marks)))
    ∙ clauses_read count end after (marked n ms) 0 cs (omega arith) small within (omega arith)
