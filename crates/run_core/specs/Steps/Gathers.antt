-- What the workers handed in, gathered at the root's seat.
use Rattle.std.specs.Prelude.{◌≡◌, ℕ, ◌+◌, ◌*◌, ◌≤◌, ◌⊎◌, ◌||◌, Bool, true, false, IsTrue, List, [], ◌∷◌, ◌++◌, map, length, take, All, Contains}
use Rattle.cnf_core.specs.Literals.{Literal, Literals}
use Rattle.lrat_log.specs.Entries.{Entry, Recorded, is_import}
use Rattle.cert_merge.specs.Merging.{AreOf}
use Rattle.model_store.specs.Stores.{Store, with_models}
use Rattle.model_store.specs.Witnesses.{IsInRange}
use Rattle.model_store.specs.declared.witness.Witness.{Witness}
use Rattle.board_core.specs.Boards.{joined}
use Rattle.board_core.specs.Subjects.{About}
use Rattle.board_core.specs.Laws.{NoneOpen}
use Rattle.board_core.specs.declared.view.View.{View}
use Rattle.board_core.specs.declared.view.Stamped.{Stamped}
use Rattle.candidate_words.specs.Seats.{Board, Sitter, Sits, IsRoot, IsOutOf, with_view}
use Rattle.worker_loop.specs.declared.endings.End.{End}
use Rattle.worker_loop.specs.declared.endings.End.TheVariants.{Done as DoneEnd, Spent, Memory}
use Rattle.worker_loop.specs.declared.findings.Findings.{Findings}
use Rattle.worker_loop.specs.Evidence.{IsWitness, IsRooted, IsImportOf, IsPublished, IsSettled}
use Rattle.run_core.specs.declared.gathered.Gathered.{Gathered}
use Rattle.run_core.specs.declared.slot.Slot.{Slot}
use Rattle.run_core.specs.declared.slot.Slot.TheVariants.{Ready, Called, Done, Left, Empty}
use Rattle.run_core.specs.Outcomes.{IsSpent}
use Rattle.run_core.specs.Steps.Crews.{IsOut}

-- a witness whose model stands so many places further on
abbrev pub moved : ℕ → Witness → Witness
moved base w = record { var = w.var; model = w.model + base; flip = w.flip }

abbrev pub is_memory : End → Bool
is_memory DoneEnd = false
is_memory Spent = false
is_memory Memory = true

-- what the root's worker handed in, by itself
pub record HasBegun (f : Findings) (g : Gathered) : Type 0 where
  pub seat : g.seat ≡ f.seat
  pub models : g.models ≡ f.models
  pub drops : g.drops.items ≡ f.drops.items
  pub fixes : g.fixes.items ≡ f.fixes.items
  pub logs : g.logs.items ≡ f.log ∷ []
  pub failed : g.failed ≡ is_memory f.end

-- the other seat may be joined
pub record MayTake (b : Board) (g : Gathered) (s : Sitter) : Type 0 where
  pub sits : Sits b g.seat
  pub root : IsRoot g.seat
  pub other : Sits b s
  pub out : IsOutOf g.seat s

-- and there is room for the models, which the drops name
pub record MayTakeAll (b : Board) (g : Gathered) (f : Findings) : Type 0 where
  pub seat : MayTake b g f.seat
  pub formula : f.models.formula ≡ g.models.formula
  pub room : length g.models.models + length f.models.models ≤ 67108864
  pub drops : All (IsInRange f.models) f.drops.items

-- what another worker handed in was taken
pub record HasTaken (b : Board) (g : Gathered) (f : Findings) (h : Gathered) : Type 0 where
  pub sits : Sits b h.seat
  pub seat : h.seat ≡ with_view g.seat (joined g.seat.view f.seat.view)
  pub models : h.models ≡ with_models g.models f.models
  pub drops : h.drops.items ≡ g.drops.items ++ map (moved (length g.models.models)) f.drops.items
  pub fixes : h.fixes.items ≡ g.fixes.items ++ f.fixes.items
  pub logs : h.logs.items ≡ g.logs.items ++ f.log ∷ []
  pub failed : h.failed ≡ (g.failed || is_memory f.end)

-- just the seat of a worker that never ran was joined
pub record HasJoined (b : Board) (g : Gathered) (s : Sitter) (h : Gathered) : Type 0 where
  pub sits : Sits b h.seat
  pub seat : h.seat ≡ with_view g.seat (joined g.seat.view s.view)
  pub models : h.models ≡ g.models
  pub drops : h.drops.items ≡ g.drops.items
  pub fixes : h.fixes.items ≡ g.fixes.items
  pub logs : h.logs.items ≡ g.logs.items
  pub failed : h.failed ≡ g.failed

-- the slot has findings, and they are all that was gathered
abbrev pub MayBegin : {X : Type 0} {P : X → Type 0} → Slot X P → Type 0
MayBegin (Ready w) = ⊥
MayBegin (Called r) = ⊥
MayBegin (Done f) = Unit {0}
MayBegin (Left s) = ⊥
MayBegin Empty = ⊥

abbrev pub HasBegunIn : {X : Type 0} {P : X → Type 0} → Slot X P → Gathered → Type 0
HasBegunIn (Ready w) g = ⊥
HasBegunIn (Called r) g = ⊥
HasBegunIn (Done f) g = HasBegun f g
HasBegunIn (Left s) g = ⊥
HasBegunIn Empty g = ⊥

-- what is in a slot may be taken, and was
abbrev pub MayTakeIn : {X : Type 0} {P : X → Type 0} → Board → Gathered → Slot X P → Type 0
MayTakeIn b g (Ready w) = ⊥
MayTakeIn b g (Called r) = ⊥
MayTakeIn b g (Done f) = MayTakeAll b g f
MayTakeIn b g (Left s) = MayTake b g s
MayTakeIn b g Empty = ⊥

abbrev pub HasTakenIn : {X : Type 0} {P : X → Type 0} → Board → Gathered → Slot X P → Gathered → Type 0
HasTakenIn b g (Ready w) h = ⊥
HasTakenIn b g (Called r) h = ⊥
HasTakenIn b g (Done f) h = HasTaken b g f h
HasTakenIn b g (Left s) h = HasJoined b g s h
HasTakenIn b g Empty h = ⊥

-- one of the logs shows the phase literal by itself
pub record IsRootedIn (a : About) (logs : List Recorded) (l : Literal) : Type 0 where
  pub log : Recorded
  pub among : Contains logs log
  pub rooted : IsRooted a log l

-- one of the logs has the unit of a published variable from before its stamp
pub record IsPublishedIn (a : About) (logs : List Recorded) (p : Stamped) : Type 0 where
  pub log : Recorded
  pub among : Contains logs log
  pub published : IsPublished a log p

-- what the log took over is among the view's imports
abbrev pub AreImportsOf : About → View → Recorded → Type 0
AreImportsOf a v L = All (λ (e : Entry). IsTrue (is_import e.kind) → IsImportOf a v e) L.entries

-- The findings of the workers below a number are at the root's seat, with the models, drops and fixes of all, each drop
-- and fix with its evidence, and the logs. Where none ended for want of memory, the models are against nothing that the
-- last turns saw open, and each log is full or nothing was seen open.
pub record AreGathered (b : Board) (workers budget below : ℕ) (seat : Sitter) (models : Store) (drops : List Witness)
    (fixes : Literals) (logs : List Recorded) (failed : Bool) : Type 0 where
  pub sits : Sits b seat
  pub root : IsRoot seat
  pub out : IsOut below workers seat.view.out
  pub store : models.formula ≡ b.about.formula
  pub first : take 1 models.models ≡ b.about.phases ∷ []
  pub few : length models.models ≤ below * (b.about.formula.vars + 3)
  pub drops_are : map (λ (w : Witness). w.var) drops ≡ seat.view.drops
  pub fixes_are : map (λ (l : Literal). l.var) fixes ≡ seat.view.fixes
  pub witnessed : All (IsWitness b.about models) drops
  pub rooted : All (IsRootedIn b.about logs) fixes
  pub logs_of : AreOf b.about.formula logs
  pub imported : All (AreImportsOf b.about seat.view) logs
  pub published : All (IsPublishedIn b.about logs) seat.view.published
  pub settled : failed ≡ false → IsSettled b.about seat.view models
  pub ended : failed ≡ false → All (IsSpent b.about.formula budget) logs ⊎ NoneOpen seat.view.seen

abbrev pub IsGathered : Board → ℕ → ℕ → ℕ → Gathered → Type 0
IsGathered b workers budget below g =
    AreGathered b workers budget below g.seat g.models g.drops.items g.fixes.items g.logs.items g.failed
