-- What a formula in memory keeps beside its clauses.
use Rattle.std.specs.Prelude.{◌≡◌, ℕ}
use Rattle.cnf_core.specs.Formulas.{Cnf, literal_count, IsFormula}

-- the number is that of all literals, and the formula is within the limits
pub record IsCounted (literals : ℕ) (F : Cnf) : Type 0 where
  pub count : literals ≡ literal_count F.clauses
  pub limits : IsFormula F
