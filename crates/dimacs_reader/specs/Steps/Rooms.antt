-- What holds of the clauses at every moment of a scan.
use Rattle.std.specs.Prelude.{◌≡◌, ℕ, ◌+◌, ◌^◌, ◌≤◌, length}
use Rattle.cnf_core.specs.Literals.{Literals, AreWithin}
use Rattle.cnf_core.specs.Formulas.{Cnf, literal_count}

-- the number is that of all literals, within the limit, and the open clause has the formula's
-- variables
pub record IsPartial (F : Cnf) (clause : Literals) (literals : ℕ) : Type 0 where
  pub count : literals ≡ literal_count F.clauses + length clause
  pub limit : literals ≤ 2 ^ 23
  pub within : AreWithin F.vars clause
