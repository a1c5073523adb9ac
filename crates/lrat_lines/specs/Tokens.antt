-- A line cut into tokens.
use Rattle.std.specs.Prelude.{ℕ, ◌==◌, Bool, true, false, ◌||◌, if◌then◌else◌, List, [], ◌∷◌, filter}

-- tokens are parted by spaces, tabs and carriage returns; a line feed is in no token either
abbrev pub is_gap : ℕ → Bool
is_gap b = (b == 32) || (b == 9) || (b == 13) || (b == 10)

-- the bytes before the first gap
abbrev pub before_gap : List ℕ → List ℕ
before_gap [] = []
before_gap (b ∷ bs) = if is_gap b then [] else b ∷ before_gap bs

-- behind each gap, the bytes up to the next
abbrev pub behind_gaps : List ℕ → List (List ℕ)
behind_gaps [] = []
behind_gaps (b ∷ bs) = if is_gap b then before_gap bs ∷ behind_gaps bs else behind_gaps bs

abbrev pub is_filled : List ℕ → Bool
is_filled [] = false
is_filled (b ∷ bs) = true

-- the tokens: the longest runs of bytes that are no gaps
abbrev pub tokens : List ℕ → List (List ℕ)
tokens text = filter is_filled (before_gap text ∷ behind_gaps text)
