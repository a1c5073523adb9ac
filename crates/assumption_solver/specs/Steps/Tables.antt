-- The table by which a journal finds the entry that shows a literal by itself.
use Rattle.std.specs.Prelude.{◌≡◌, ℕ, ◌+◌, ◌*◌, ◌<◌, List, length, slice_index}
use Rattle.cnf_core.specs.Literals.{Literal, code_of, IsWithin}
use Rattle.lrat_log.specs.Entries.{Recorded}
use Rattle.assumption_solver.specs.Units.{IsUnitAt, HasUnit}

-- by the packed form of each literal the id of an entry that shows it, and 0 where there is none
pub record IsUnitTable (L : Recorded) (ids : List ℕ) : Type 0 where
  pub size : length ids ≡ 2 * L.formula.vars + 2
  pub units : (l : Literal) → IsWithin L.formula.vars l → 0 < slice_index ids (code_of l) → IsUnitAt L (slice_index ids (code_of l)) l
  pub all : (l : Literal) → HasUnit L l → 0 < slice_index ids (code_of l)

-- the table, and the id of the first entry
pub record IsTable (L : Recorded) (ids : List ℕ) (first : ℕ) : Type 0 where
  pub units : IsUnitTable L ids
  pub first_id : first ≡ length L.formula.clauses + 1
