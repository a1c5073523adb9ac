-- The evidence of what a worker has won, and the clocks of its log.
use Rattle.std.specs.Prelude.{◌≡◌, ℕ, ◌+◌, ◌*◌, ◌<◌, ◌≤◌, ◌⊎◌, IsTrue, List, [], ◌∷◌, map, length, All, Contains}
use Rattle.cnf_core.specs.Literals.{Literal, Literals, value_of}
use Rattle.cnf_core.specs.Formulas.{IsAgainst, true_literal}
use Rattle.lrat_log.specs.declared.kind.Kind.TheVariants.{Unit as UnitKind}
use Rattle.lrat_log.specs.Entries.{Entry, Recorded, entry_at, is_import, learnt_count}
use Rattle.lrat_log.specs.Laws.{learning_queries}
use Rattle.board_core.specs.Subjects.{About}
use Rattle.board_core.specs.Words.{times, named, open_at}
use Rattle.board_core.specs.Boards.{stamped, top}
use Rattle.board_core.specs.declared.view.View.{View}
use Rattle.board_core.specs.declared.view.Stamped.{Stamped}
use Rattle.model_check.specs.Flips.{flipped}
use Rattle.model_store.specs.Stores.{Store, model_at}
use Rattle.model_store.specs.Witnesses.{IsInRange, witness_in}
use Rattle.model_store.specs.declared.witness.Witness.{Witness}
use Rattle.core_chunks.specs.Chunks.{open_count}
use Rattle.assumption_solver.specs.Units.{HasUnit}
use Rattle.worker_loop.specs.Posts.{PostState}

-- a stored model, as it stands or with the variable flipped, gives the variable the value opposite to its phase
pub record IsWitness (a : About) (s : Store) (w : Witness) : Type 0 where
  pub range : IsInRange s w
  pub against : IsAgainst a.formula (witness_in s w) w.var (value_of a.phases w.var)

-- a phase literal that the log shows by itself
pub record IsRooted (a : About) (L : Recorded) (l : Literal) : Type 0 where
  pub phase : l ≡ true_literal a.phases l.var
  pub unit : HasUnit L l

-- the drops and fixes of a view in the order in which they were won, each with its evidence
pub record IsTold (a : About) (v : View) (s : Store) (L : Recorded) (drops : List Witness) (fixes : Literals) : Type 0 where
  pub store : s.formula ≡ a.formula
  pub log : L.formula ≡ a.formula
  pub drops_are : map (λ (w : Witness). w.var) drops ≡ v.drops
  pub fixes_are : map (λ (l : Literal). l.var) fixes ≡ v.fixes
  pub witnessed : All (IsWitness a s) drops
  pub rooted : All (IsRooted a L) fixes

-- neither a stored model nor its flip of one variable is against a candidate that is seen open
pub record IsKeeping (a : About) (s : Store) (x place : ℕ) : Type 0 where
  pub by_value : IsAgainst a.formula (model_at s place) x (value_of a.phases x) → ⊥
  pub by_flip : IsAgainst a.formula (flipped (model_at s place) x) x (value_of a.phases x) → ⊥

abbrev pub IsSettled : About → View → Store → Type 0
IsSettled a v s = (x place : ℕ) → 0 < x → open_at v.seen x ≡ 1 → place < length s.models → IsKeeping a s x place

-- the entry is of a phase literal that another worker published, at its stamp or later
pub record IsImportOf (a : About) (v : View) (e : Entry) : Type 0 where
  pub var : ℕ
  pub stamp : ℕ
  pub literals : e.literals ≡ true_literal a.phases var ∷ []
  pub known : Contains v.imports (stamped var stamp)
  pub later : stamp ≤ e.clock

-- the log has a unit of the published variable's phase literal from before its stamp
pub record IsPublished (a : About) (L : Recorded) (p : Stamped) : Type 0 where
  pub place : ℕ
  pub within : place < length L.entries
  pub kind : (entry_at L place).kind ≡ UnitKind
  pub literals : (entry_at L place).literals ≡ true_literal a.phases p.var ∷ []
  pub before : (entry_at L place).clock < p.stamp

-- the clocks of a log and what its worker's view published and imported
pub record IsClocked (a : About) (v : View) (L : Recorded) : Type 0 where
  pub clock : L.clock ≤ top v.imports
  pub imported : All (λ e. IsTrue (is_import e.kind) → IsImportOf a v e) L.entries
  pub published : All (IsPublished a L) v.published
  pub all_published : (x : ℕ) → times x v.fixes ≡ named x v.published

-- how many queries learnt something: two a turn, each of which closed a candidate, and the first search. The last turn
-- may close none where the budget is spent
abbrev pub IsPaced : PostState → Type 0
IsPaced p = (learning_queries p.log.entries + 2 * open_count p.seat.view.seen p.about.formula.vars ≤ 2 * p.about.formula.vars + 1)
    ⊎ ((learnt_count p.log.entries ≡ p.budget) × (learning_queries p.log.entries ≤ 2 * (p.about.formula.vars + 1)))
