-- What is seen of a worker.
use Rattle.std.specs.Prelude.{◌≡◌, ℕ, ◌≤◌, Bool, false, List, [], ◌++◌, length, All}
use Rattle.cnf_core.specs.Literals.{Literals, Assignment}
use Rattle.lrat_log.specs.Entries.{Entry, Recorded, is_import, learnt_count}
use Rattle.lrat_log.specs.Laws.{learning_queries}
use Rattle.board_core.specs.Subjects.{About, groups}
use Rattle.board_core.specs.Rules.{AreEarlier, IsOnce}
use Rattle.model_store.specs.Stores.{Store}
use Rattle.model_store.specs.declared.witness.Witness.{Witness}
use Rattle.assumption_solver.specs.SolverStates.{SolverState}
use Rattle.candidate_words.specs.Seats.{Sitter}

-- what a worker asks about and where it sits, the models that it stored, the drops and the fixes that it won, each
-- with its evidence, its log, and how many clauses it may learn
pub record PostState : Type 0 where
  pub about : About
  pub seat : Sitter
  pub models : Store
  pub drops : List Witness
  pub fixes : Literals
  pub log : Recorded
  pub budget : ℕ

-- a worker: its number, its post, and whether it has had no memory
pub record WorkerState : Type 0 where
  pub number : ℕ
  pub post : PostState
  pub failed : Bool

-- the log has more entries, and is of the same formula
pub record IsLonger (old new : Recorded) : Type 0 where
  pub formula : new.formula ≡ old.formula
  pub more : List Entry
  pub entries : new.entries ≡ old.entries ++ more

-- at most one model more
pub record HasStored (old new : Store) : Type 0 where
  pub formula : new.formula ≡ old.formula
  pub more : List Assignment
  pub models : new.models ≡ old.models ++ more
  pub one : length more ≤ 1

-- the same post later: what is seen is no earlier, and the log only grew
pub record IsLater (p q : PostState) : Type 0 where
  pub about : q.about ≡ p.about
  pub table : q.seat.table ≡ p.seat.table
  pub number : q.seat.view.number ≡ p.seat.view.number
  pub next : q.seat.view.next ≡ p.seat.view.next
  pub out : q.seat.view.out ≡ p.seat.view.out
  pub seen : AreEarlier (groups p.about.formula.vars) p.seat.view.seen q.seat.view.seen
  pub log : IsLonger p.log q.log
  pub budget : q.budget ≡ p.budget

-- a solver may be handed to a worker: it learnt within the budget, in one query, and has no imports
pub record IsFirst (a : About) (budget : ℕ) (s : SolverState) : Type 0 where
  pub formula : s.log.formula ≡ a.formula
  pub few : learnt_count s.log.entries ≤ budget
  pub clock : s.log.clock ≡ 0
  pub one_query : learning_queries s.log.entries ≤ 1
  pub shown : All (λ e. is_import e.kind ≡ false) s.log.entries

-- a seat of this board that has dropped, fixed, published and imported nothing
pub record IsUnused (a : About) (s : Sitter) : Type 0 where
  pub once : IsOnce a s.view
  pub drops : s.view.drops ≡ []
  pub fixes : s.view.fixes ≡ []
  pub published : s.view.published ≡ []
  pub imports : s.view.imports ≡ []

-- the post of a new worker: without models, drops and fixes, and nothing was learnt but by the solver that was handed in
pub record IsNewPost (a : About) (s : Sitter) (limit : ℕ) (p : PostState) : Type 0 where
  pub about : p.about ≡ a
  pub seat : p.seat ≡ s
  pub no_models : p.models.models ≡ []
  pub no_drops : p.drops ≡ []
  pub no_fixes : p.fixes ≡ []
  pub budget : p.budget ≡ limit
