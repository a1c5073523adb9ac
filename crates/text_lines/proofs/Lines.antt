-- Lines of texts that are put together.
use Rattle.std.proofs.Common.{◌≡◌, ◌≢◌, ℕ, suc, ◌≤◌, ◌==◌, Bool, true, false, List, [], ◌∷◌, ◌++◌, length, refl, sym, ◌∙◌, ap, arith}
use Rattle.std.specs.Prelude.{if◌then◌else◌}
use Rattle.std.specs.List.{flat_map}
use Rattle.std.proofs.lemmas.List.{append_assoc, append-nil}
use Rattle.std.proofs.lemmas.List.Elements.{All-head, All-tail}
use Rattle.std.proofs.lemmas.Bool.{ne_eqb, eqb-true}
use Rattle.text_lines.specs.Lines.{Line, lines_of, with_byte, text_of_line, IsFront, IsPlain}

abbrev IsNoFeed : ℕ → Type 0
IsNoFeed b = b ≢ 10

-- the lines behind one byte, by whether it is a line feed
abbrev behind : Bool → ℕ → List Line → List Line
behind t b ls = if t then record { bytes = []; ended = true } ∷ ls else with_byte b ls

pub lines_byte : (b : ℕ) (bs : List ℕ) → b ≢ 10 → lines_of (b ∷ bs) ≡ with_byte b (lines_of bs)
lines_byte b bs other = ap (λ (t : Bool). behind t b (lines_of bs)) (ne_eqb b 10 other)

-- a line with its line feed stands before the lines of the rest
pub lines_ended : (bytes rest : List ℕ) → IsPlain bytes
    → lines_of (bytes ++ 10 ∷ rest) ≡ record { bytes = bytes; ended = true } ∷ lines_of rest
lines_ended [] rest plain = refl
lines_ended (b ∷ bs) rest plain =
    lines_byte b (bs ++ 10 ∷ rest) (All-head IsNoFeed b bs plain)
    ∙ ap (with_byte b) (lines_ended bs rest (All-tail IsNoFeed b bs plain))

-- bytes with no line feed are one line
pub lines_open : (b : ℕ) (bs : List ℕ) → IsPlain (b ∷ bs) → lines_of (b ∷ bs) ≡ record { bytes = b ∷ bs; ended = false } ∷ []
lines_open b [] plain = lines_byte b [] (All-head IsNoFeed b [] plain)
lines_open b (x ∷ xs) plain =
    lines_byte b (x ∷ xs) (All-head IsNoFeed b (x ∷ xs) plain)
    ∙ ap (with_byte b) (lines_open x xs (All-tail IsNoFeed b (x ∷ xs) plain))

-- there are no more lines than bytes
few_behind : (t : Bool) (b : ℕ) (ls : List Line) (n : ℕ) → length ls ≤ n → length (behind t b ls) ≤ suc n
few_behind true b ls n le = omega (arith, le)
few_behind false b [] n le = omega arith
few_behind false b (l ∷ ls) n le = omega (arith, le)

pub lines_few : (text : List ℕ) → length (lines_of text) ≤ length text
lines_few [] = omega arith
lines_few (b ∷ bs) = few_behind (b == 10) b (lines_of bs) (length bs) (lines_few bs)

-- the lines, put together, are the text
join_byte : (b : ℕ) (ls : List Line) → flat_map text_of_line (with_byte b ls) ≡ b ∷ flat_map text_of_line ls
join_byte b [] = refl
join_byte b (l ∷ ls) = refl

join_behind : (t : Bool) (b : ℕ) (ls : List Line) → (b == 10) ≡ t → flat_map text_of_line (behind t b ls) ≡ b ∷ flat_map text_of_line ls
join_behind true b ls is = ap (λ (c : ℕ). c ∷ flat_map text_of_line ls) (sym (eqb-true b 10 is))
join_behind false b ls is = join_byte b ls

pub lines_join : (text : List ℕ) → flat_map text_of_line (lines_of text) ≡ text
lines_join [] = refl
lines_join (b ∷ bs) = join_behind (b == 10) b (lines_of bs) refl ∙ ap (λ (rest : List ℕ). b ∷ rest) (lines_join bs)

-- the first lines of a text

pub front_none : (rest : List ℕ) → IsFront rest [] rest
front_none rest = record { lines = λ more. refl }

pub front_more : {text rest : List ℕ} {done : List Line} (more : List ℕ) → IsFront text done rest
    → IsFront (text ++ more) done (rest ++ more)
front_more {text} {rest} {done} more front = record {
  lines = λ (later : List ℕ). ap lines_of (append_assoc text more later) ∙ front.lines (more ++ later)
      ∙ ap (λ (bytes : List ℕ). done ++ lines_of bytes) (sym (append_assoc rest more later));
}

pub front_line : {text rest : List ℕ} {done : List Line} (bytes behind : List ℕ) → IsFront text done rest
    → rest ≡ bytes ++ 10 ∷ behind → IsPlain bytes → IsFront text (done ++ record { bytes = bytes; ended = true } ∷ []) behind
front_line {text} {rest} {done} bytes behind front is plain = record {
  lines = λ (later : List ℕ). front.lines later
      ∙ ap (λ (r : List ℕ). done ++ lines_of (r ++ later)) is
      ∙ ap (λ (r : List ℕ). done ++ lines_of r) (append_assoc bytes (10 ∷ behind) later)
      ∙ ap (λ (ls : List Line). done ++ ls) (lines_ended bytes (behind ++ later) plain)
      ∙ sym (append_assoc done (record { bytes = bytes; ended = true } ∷ []) (lines_of (behind ++ later)));
}

pub front_whole : {text rest : List ℕ} {done : List Line} → IsFront text done rest → lines_of text ≡ done ++ lines_of rest
front_whole {text} {rest} {done} front =
    ap lines_of (sym (append-nil text)) ∙ front.lines [] ∙ ap (λ (r : List ℕ). done ++ lines_of r) (append-nil rest)
