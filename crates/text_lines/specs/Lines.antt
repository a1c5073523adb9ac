-- A text cut into lines.
use Rattle.std.specs.Prelude.{◌≡◌, ◌≢◌, ℕ, ◌==◌, Bool, true, false, if◌then◌else◌, List, [], ◌∷◌, ◌++◌, All}

-- a line's bytes without its line feed, and whether it has one
pub record Line : Type 0 where
  pub bytes : List ℕ
  pub ended : Bool

-- the lines with one byte more at the front of the first
abbrev pub with_byte : ℕ → List Line → List Line
with_byte b [] = record { bytes = b ∷ []; ended = false } ∷ []
with_byte b (l ∷ ls) = record { bytes = b ∷ l.bytes; ended = l.ended } ∷ ls

-- a line ends at a line feed or at the end of the text; behind the last line feed there is a line only where
-- there is a byte
abbrev pub lines_of : List ℕ → List Line
lines_of [] = []
lines_of (b ∷ bs) = if b == 10 then record { bytes = []; ended = true } ∷ lines_of bs else with_byte b (lines_of bs)

-- no line feed is among the bytes
abbrev pub IsPlain : List ℕ → Type 0
IsPlain bytes = All (λ (b : ℕ). b ≢ 10) bytes

-- the bytes that a line takes up
abbrev pub text_of_line : Line → List ℕ
text_of_line l = l.bytes ++ (if l.ended then 10 ∷ [] else [])

-- the text begins with these lines, and goes on with the rest, whatever more comes behind it
pub record IsFront (text : List ℕ) (done : List Line) (rest : List ℕ) : Type 0 where
  pub lines : (more : List ℕ) → lines_of (text ++ more) ≡ done ++ lines_of (rest ++ more)
