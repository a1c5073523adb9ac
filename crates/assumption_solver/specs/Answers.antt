-- What a solver answers, and what each answer says.
use Rattle.std.specs.Prelude.{◌≡◌, ℕ, ◌<◌, true, false, [], length, All, Contains}
use Rattle.cnf_core.specs.Literals.{Literal, Literals, Assignment, negated, is_true}
use Rattle.cnf_core.specs.Formulas.{Cnf, IsModel, models}
use Rattle.lrat_log.specs.declared.kind.Kind.TheVariants.{Unit as UnitKind, Core as CoreKind, Empty}
use Rattle.lrat_log.specs.Entries.{Recorded, is_import, learnt_count}
use Rattle.assumption_solver.specs.declared.found.Found.{Found}
use Rattle.assumption_solver.specs.declared.found.Found.TheVariants.{Model, Core, AllFixed, Unsat, Spent, Memory}
use Rattle.assumption_solver.specs.declared.found.Progress.{Progress}
use Rattle.assumption_solver.specs.declared.found.Progress.TheVariants.{Found as Ended, Paused}
use Rattle.assumption_solver.specs.Units.{HasUnit}
use Rattle.assumption_solver.specs.Logs.{IsEntryAt}
use Rattle.assumption_solver.specs.SolverStates.{SolverState}

-- the assignment makes some literal of the chunk false
pub record HasFalse (a : Assignment) (chunk : Literals) : Type 0 where
  pub literal : Literal
  pub member : Contains chunk literal
  pub made_false : is_true a literal ≡ false

-- a model in which all assumptions are true and, where there is a chunk, one of its literals is false
pub record IsModelFor (F : Cnf) (assume chunk : Literals) (a : Assignment) : Type 0 where
  pub is_model : IsModel F a
  pub assumed : (l : Literal) → Contains assume l → is_true a l ≡ true
  pub split : 0 < length chunk → HasFalse a chunk

-- the entry of this id is the clause: as a unit, or as a core of more literals
pub record IsCoreAt (L : Recorded) (id : ℕ) (c : Literals) : Type 0 where
  pub one : length c ≡ 1 → IsEntryAt L id UnitKind c
  pub more : 1 < length c → IsEntryAt L id CoreKind c

-- a clause of negated assumptions, at least one, which the entry of this id shows
pub record IsCoreFor (L : Recorded) (assume c : Literals) (id : ℕ) : Type 0 where
  pub some : 0 < length c
  pub negates : (l : Literal) → Contains c l → Contains assume (negated l)
  pub at_id : IsCoreAt L id c

-- the entry of this id is the empty clause
abbrev pub IsEmptyAt : Recorded → ℕ → Type 0
IsEmptyAt L id = IsEntryAt L id Empty []

-- what an answer says of the log that it leaves
abbrev pub FoundSays : Found → Literals → Literals → ℕ → Recorded → Type 0
FoundSays (Model m) assume chunk budget L = IsModelFor L.formula assume chunk m
FoundSays (Core lits entry) assume chunk budget L = IsCoreFor L assume lits.items entry
FoundSays AllFixed assume chunk budget L = (0 < length chunk) × ((l : Literal) → Contains chunk l → HasUnit L l)
FoundSays (Unsat entry) assume chunk budget L = IsEmptyAt L entry × (models L.formula ≡ [])
FoundSays Spent assume chunk budget L = learnt_count L.entries ≡ budget
FoundSays Memory assume chunk budget L = Unit {0}

-- what the end of a slice says: the query has its answer, or so many clauses were learnt that the slice
-- ends, and the budget leaves more
abbrev pub ProgressSays : Progress → Literals → Literals → ℕ → ℕ → Recorded → Type 0
ProgressSays (Ended f) assume chunk budget stop L = FoundSays f assume chunk budget L
ProgressSays Paused assume chunk budget stop L = (learnt_count L.entries ≡ stop) × (stop < budget)

-- a new solver of the formula
pub record IsBegun (F : Cnf) (s : SolverState) : Type 0 where
  pub formula : s.log.formula ≡ F
  pub alive : s.dead ≡ false
  pub clock : s.log.clock ≡ 0
  pub none_learnt : learnt_count s.log.entries ≡ 0
  pub none_imported : All (λ e. is_import e.kind ≡ false) s.log.entries
