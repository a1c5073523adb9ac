-- Marked variables.
use Rattle.std.specs.Prelude.{ℕ, ◌<◌, ◌≤◌, IsTrue, List, Bool, length, Contains}
use Rattle.cnf_core.specs.Literals.{value_of}

-- the variable is one of the marked ones
pub record IsListed (marks : List Bool) (v : ℕ) : Type 0 where
  pub low : 0 < v
  pub high : v ≤ length marks
  pub marked : IsTrue (value_of marks v)

-- the marked variables are in the list
abbrev pub IsMarkedIn : List Bool → List ℕ → Type 0
IsMarkedIn marks vs = (v : ℕ) → IsListed marks v → Contains vs v
