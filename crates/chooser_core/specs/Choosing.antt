-- What a chooser is asked, and how often it was.
use Rattle.std.specs.Prelude.{◌≡◌, ◌≢◌, ◌+◌, ◌-◌, ◌^◌, ◌<◌, ◌≤◌, ℕ, ℤ, pos, min, List, length, slice_index_or}

-- the variable is one of those that have a place in the list of values, and has no value there
pub record IsFree (values : List ℤ) (v : ℕ) : Type 0 where
  pub low : 0 < v
  pub high : v ≤ length values
  pub none : slice_index_or values (v - 1) (pos 0) ≡ pos 0

-- it is the least such variable
pub record IsLeastFree (values : List ℤ) (v : ℕ) : Type 0 where
  pub free : IsFree values v
  pub least : (u : ℕ) → 0 < u → u < v → slice_index_or values (u - 1) (pos 0) ≢ pos 0

-- one more than so many, up to the greatest number of 64 bits
abbrev pub once_more : ℕ → ℕ
once_more n = min (n + 1) (2 ^ 64 - 1)
