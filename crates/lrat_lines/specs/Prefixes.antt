-- Facts that each element of a list owes to those before it.
use Rattle.std.specs.Prelude.{ℕ, ◌<◌, List, length, take, slice_index_or}

-- P holds of each element and the list of those before it
abbrev pub EachAfter : {X : Type 0} → (List X → X → Type 0) → List X → Type 0
EachAfter {X} P xs = (k : ℕ) (d : X) → k < length xs → P (take k xs) (slice_index_or xs k d)
