-- The variables that a model can't do without.
use Rattle.std.specs.Prelude.{◌≡◌, ◌↔◌, ℕ, ◌<◌, ◌≤◌, Bool, false, IsTrue, List, length}
use Rattle.cnf_core.specs.Literals.{Assignment, value_of}
use Rattle.cnf_core.specs.Formulas.{Cnf, IsModel}
use Rattle.model_check.specs.Flips.{flipped}

-- a mark for each variable, on exactly where flipping that variable alone leaves no model
pub record MarksCritical (F : Cnf) (a : Assignment) (marks : List Bool) : Type 0 where
  pub each : length marks ≡ F.vars
  pub marked : (v : ℕ) → 0 < v → v ≤ F.vars
      → IsTrue (value_of marks v) ↔ (IsModel F (flipped a v) → ⊥)
  pub unmarked : (v : ℕ) → 0 < v → v ≤ F.vars
      → value_of marks v ≡ false → IsModel F (flipped a v)
