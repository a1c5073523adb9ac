-- The lines of the literals up to a place, and from there on.
use Rattle.std.proofs.Common.{◌≡◌, ℕ, ◌+◌, ◌<◌, ◌≤◌, List, [], ◌++◌, length, take, drop, get_or, sym, ◌∙◌, ap, take-append-drop}
use Rattle.std.proofs.lemmas.List.{take_more, take_all, flat_map_more}
use Rattle.std.proofs.lemmas.List.Concat.{flat_map-append}
use Rattle.cnf_core.specs.Literals.{Literal, Literals}
use Rattle.answer_text.specs.AnswerText.{literal_line, literal_lines}

pub lines_more : (letter : ℕ) (xs : Literals) (i : ℕ) (x : Literal) → i < length xs → x ≡ get_or xs i x
    → literal_lines letter (take i xs) ++ literal_line letter x ≡ literal_lines letter (take (i + 1) xs)
lines_more letter xs i x lt is =
    ap (λ (y : Literal). literal_lines letter (take i xs) ++ literal_line letter y) is
    ∙ flat_map_more (literal_line letter) [] (take i xs) (get_or xs i x)
    ∙ sym (ap (literal_lines letter) (take_more xs i x lt))

-- the lines up to a place, the next one, and the rest
pub lines_around : (letter : ℕ) (xs : Literals) (i : ℕ) (x : Literal) → i < length xs → x ≡ get_or xs i x
    → (literal_lines letter (take i xs) ++ literal_line letter x) ++ literal_lines letter (drop (i + 1) xs)
    ≡ literal_lines letter xs
lines_around letter xs i x lt is =
    ap (λ (front : List ℕ). front ++ literal_lines letter (drop (i + 1) xs)) (lines_more letter xs i x lt is)
    ∙ sym (flat_map-append (literal_line letter) (take (i + 1) xs) (drop (i + 1) xs))
    ∙ ap (literal_lines letter) (take-append-drop (i + 1) xs)

pub lines_all : (letter : ℕ) (xs : Literals) (i : ℕ) → length xs ≤ i
    → literal_lines letter (take i xs) ≡ literal_lines letter xs
lines_all letter xs i le = ap (literal_lines letter) (take_all i xs le)
