-- What tests and benches know of a formula with two of its models.
use Rattle.std.specs.Prelude.{◌≡◌, ℕ, ◌<◌}
use Rattle.cnf_core.specs.Literals.{Assignment}
use Rattle.cnf_core.specs.Formulas.{Cnf, IsModel}
use Rattle.board_core.specs.Subjects.{About, candidate}

-- a formula with a variable or more, the model that gives the phases, and another model
pub record IsCase (F : Cnf) (phases other : Assignment) : Type 0 where
  pub some : 0 < F.vars
  pub phases_model : IsModel F phases
  pub other_model : IsModel F other

-- a candidate of which P holds
pub record IsOne (a : About) (P : ℕ → Type 0) (x : ℕ) : Type 0 where
  pub candidate : candidate a.formula x ≡ 1
  pub holds : P x
