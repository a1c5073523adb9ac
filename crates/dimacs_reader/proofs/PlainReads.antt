-- What is read from a plain text is the formula that it spells.
use Rattle.std.proofs.Common.{◌≡◌, ℕ, ◌<◌, ◌≤◌, ◌^◌, ◌+◌, false, List, [], ◌∷◌, ◌++◌, length, Some, Ok, refl, sym, ap, ◌∙◌}
use Rattle.std.proofs.Common.{arith, append_assoc}
use Rattle.std.specs.Prelude.{map, decimal, codes, flat_map}
use Rattle.std.proofs.lemmas.Bool.{le-ltb}
use Rattle.std.proofs.lemmas.Fmt.{decimal_nonempty}
use Rattle.cnf_core.specs.Formulas.{Cnf, IsFormula}
use Rattle.cnf_core.specs.Spelling.{number_of_digits}
use Rattle.cnf_core.proofs.Numerals.{number_of_digits-decimal}
use Rattle.dimacs_reader.specs.Pieces.{Piece, Line, is_line_feed, is_blank, line_of}
use Rattle.dimacs_reader.specs.Reading.{◌>>=◌, says_nothing, header, after_header, formula_of, reading_of}
use Rattle.dimacs_reader.specs.PlainText.{clause_line, show_line, plain_text, IsPlain}
use Rattle.dimacs_reader.proofs.PlainPieces.{NonePass, none_pass, NonePass-append, piece, pieces_cut}
use Rattle.dimacs_reader.proofs.PlainNumbers.{NonePass-decimal}
use Rattle.dimacs_reader.proofs.PlainLines.{words, words_more, words_last}
use Rattle.dimacs_reader.proofs.PlainClauses.{no_blank, no_line_feed, lines_from}
use Rattle.dimacs_reader.proofs.PlainShown.{behind_header}

-- the header's line without its line feed, for the numbers' digits
abbrev header_bytes : List ℕ → List ℕ → List ℕ
header_bytes vars count = codes "p cnf " ++ vars ++ codes " " ++ count

header_bytes-words : (vars count : List ℕ) → header_bytes vars count ≡ codes "p" ++ 32 ∷ (codes "cnf" ++ 32 ∷ (vars ++ 32 ∷ count))
header_bytes-words vars count = simp append_assoc

-- the digits of a number of the header
record AreDigits (ds : List ℕ) (n : ℕ) : Type 0 where
  filled : 0 < length ds
  word : NonePass is_blank ds
  inside : NonePass is_line_feed ds
  number : number_of_digits ds ≡ Some n

digits_of : (n : ℕ) → n < 2 ^ 64 → AreDigits (decimal n) n
digits_of n small = record {
  filled = decimal_nonempty n small;
  word = NonePass-decimal is_blank n (λ b range. no_blank b (omega arith) (omega arith)) small;
  inside = NonePass-decimal is_line_feed n (λ b range. no_line_feed b (omega arith) (omega arith)) small;
  number = number_of_digits-decimal n small;
}

header_is_one_line : (v c : ℕ) (vars count : List ℕ) → AreDigits vars v → AreDigits count c
    → NonePass is_line_feed (header_bytes vars count)
header_is_one_line v c vars count v_is c_is =
    let first = NonePass-append is_line_feed (codes "p cnf ") vars (none_pass is_line_feed (codes "p cnf ") refl) v_is.inside in
    let front = NonePass-append is_line_feed (codes "p cnf " ++ vars) (codes " ") first (refl, tt) in
    NonePass-append is_line_feed (codes "p cnf " ++ vars ++ codes " ") count front c_is.inside

abbrev header_tokens : List ℕ → List ℕ → List Piece
header_tokens vars count =
    piece 0 (codes "p") ∷ piece 2 (codes "cnf") ∷ piece 6 vars ∷ piece (6 + (length vars + 1)) count ∷ []

header_words : (v c : ℕ) (vars count : List ℕ) → AreDigits vars v → AreDigits count c
    → words 0 (header_bytes vars count) ≡ header_tokens vars count
header_words v c vars count v_is c_is =
    let second = words_more 2 (codes "cnf") (vars ++ 32 ∷ count) (omega arith) (none_pass is_blank (codes "cnf") refl) in
    let third = words_more 6 vars count v_is.filled v_is.word in
    let fourth = words_last (6 + (length vars + 1)) count c_is.filled c_is.word in
    ap (words 0) (header_bytes-words vars count)
    ∙ words_more 0 (codes "p") (codes "cnf" ++ 32 ∷ (vars ++ 32 ∷ count)) (omega arith) (none_pass is_blank (codes "p") refl)
    ∙ ap (λ ts. piece 0 (codes "p") ∷ ts) second
    ∙ ap (λ ts. piece 0 (codes "p") ∷ piece 2 (codes "cnf") ∷ ts) (third ∙ ap (λ ts. piece 6 vars ∷ ts) fourth)

header_read : (end v c : ℕ) (vars count : List ℕ) → AreDigits vars v → AreDigits count c → v ≤ 2 ^ 20 → c ≤ 2 ^ 21
    → header end (header_tokens vars count) ≡ Ok (record { vars = v; clauses = c })
header_read end v c vars count v_is c_is v_small c_small =
    rw (v_is.number, le-ltb (2 ^ 20) v v_small, c_is.number, le-ltb (2 ^ 21) c c_small)

header_line_read : (end : ℕ) (l : Line) (ls : List Line) (ts : List Piece) → l.tokens ≡ ts → says_nothing ts ≡ false
    → formula_of end (l ∷ ls) ≡ (header l.end ts >>= after_header end ls)
header_line_read end l ls ts same says = rw (same, says)

-- a plain text is read as the formula that it spells
pub reading_of-plain_text : (F : Cnf) → IsFormula F → reading_of (plain_text F) ≡ Ok F
unfolding reading_of
reading_of-plain_text F formula =
    let v = F.vars in
    let c = length F.clauses in
    let v_is = digits_of v (omega arith) in
    let c_is = digits_of c (omega arith) in
    let first = header_bytes (decimal v) (decimal c) in
    let first_is_line = header_is_one_line v c (decimal v) (decimal c) v_is c_is in
    let end = length (plain_text F) in
    let after = 0 + (length first + 1) in
    let rest = show_line F.shown ++ flat_map clause_line F.clauses in
    ap (λ bs. formula_of end (lines_from 0 bs)) (append_assoc first (codes "\n") rest)
    ∙ ap (λ ps. formula_of end (map line_of ps)) (pieces_cut is_line_feed 0 first 10 rest first_is_line refl)
    ∙ header_line_read end (line_of (piece 0 first)) (lines_from after rest) (header_tokens (decimal v) (decimal c))
    (header_words v c (decimal v) (decimal c) v_is c_is) refl
    ∙ ap (λ r. r >>= after_header end (lines_from after rest))
    (header_read (0 + length first) v c (decimal v) (decimal c) v_is c_is formula.vars_limit formula.clauses_limit)
    ∙ behind_header c end after v F.shown F.clauses refl formula.vars_limit formula.within formula.literals_limit formula.marks

pub IsPlain-reads : (text : List ℕ) (F : Cnf) → IsPlain text F → reading_of text ≡ Ok F
IsPlain-reads text F plain = ap reading_of plain.spelled ∙ reading_of-plain_text F plain.formula

-- so a text is the plain spelling of one formula at most
pub IsPlain-unique : (text : List ℕ) (F G : Cnf) → IsPlain text F → IsPlain text G → F ≡ G
IsPlain-unique text F G left right =
    let read = sym (IsPlain-reads text F left) ∙ IsPlain-reads text G right in cc
