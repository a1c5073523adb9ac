-- How likely a flip is by how much it breaks.
use Rattle.std.specs.Prelude.{◌≡◌, ℕ, ◌+◌, ◌*◌, ◌/◌, ◌^◌, ◌<◌, List, length, slice_index}

-- 2^24 divided by the square of 0.9 more than the number of breaks, and 1
abbrev pub weight_of : ℕ → ℕ
weight_of breaks = 1677721600 / ((9 + 10 * breaks) * (9 + 10 * breaks)) + 1

-- the weights in a table
pub record AreWeights (table : List ℕ) : Type 0 where
  pub each : length table ≡ 256
  pub weights : (b : ℕ) → b < 256 → slice_index table b ≡ weight_of b
  pub limit : (b : ℕ) → b < 256 → slice_index table b < 2 ^ 31
