-- Masks of a group's candidates, and how a post moves by dropping them.
use Rattle.std.specs.Prelude.{◌≡◌, ℕ, suc, ◌+◌, ◌*◌, ◌<◌, ◌⊎◌, not, Bool, length}
use Rattle.std.specs.Int.{bit_at}
use Rattle.cnf_core.specs.Literals.{Assignment, value_of}
use Rattle.cnf_core.specs.Formulas.{IsModel}
use Rattle.board_core.specs.Subjects.{About, candidate, groups}
use Rattle.board_core.specs.Words.{open_at}
use Rattle.model_check.specs.Flips.{flipped}
use Rattle.flip_literals.specs.Critical.{MarksCritical}
use Rattle.model_store.specs.Stores.{Store, model_at}
use Rattle.model_store.specs.declared.witness.Witness.{Witness}
use Rattle.worker_loop.specs.declared.post.Post.{Post}
use Rattle.worker_loop.specs.declared.dropping.Flips.{Flips}
use Rattle.worker_loop.specs.declared.dropping.Flips.TheVariants.{None as NoFlips, Marked, Listed}
use Rattle.worker_loop.specs.declared.dropping.Source.{Source}
use Rattle.worker_loop.specs.Evidence.{IsWitness, IsKeeping}
use Rattle.worker_loop.specs.Steps.Moves.{IsClosed}

-- the variable of a group's bit
abbrev pub var_at : ℕ → ℕ → ℕ
var_at g i = suc (32 * g + i)

-- the mask's bits are candidates
abbrev pub HasCandidates : About → ℕ → ℕ → Type 0
HasCandidates a g mask = (i : ℕ) → i < 32 → bit_at mask i ≡ 1 → candidate a.formula (var_at g i) ≡ 1

-- of the open ones those to which the model gives the value opposite to their phases
pub record AreAgainst (a : About) (m : Assignment) (g among mask : ℕ) : Type 0 where
  pub against : (i : ℕ) → i < 32 → bit_at mask i ≡ 1
      → (bit_at among i ≡ 1) × (value_of m (var_at g i) ≡ not (value_of a.phases (var_at g i)))
  pub rest : (i : ℕ) → i < 32 → bit_at among i ≡ 1 → bit_at mask i ≡ 0 → value_of m (var_at g i) ≡ value_of a.phases (var_at g i)

abbrev pub KeepPhases : About → Assignment → ℕ → ℕ → Type 0
KeepPhases a m g mask = (i : ℕ) → i < 32 → bit_at mask i ≡ 1 → value_of m (var_at g i) ≡ value_of a.phases (var_at g i)

-- no flip of one of the candidates that were open and keep their phases is a model
abbrev pub HasNoFlips : Post → Assignment → Type 0
HasNoFlips p m = (x : ℕ) → 0 < x → open_at p.loaded.items x ≡ 1 → value_of m x ≡ value_of p.question.now.phases x
    → IsModel p.question.now.formula (flipped m x) → ⊥

-- the flips can be left out, where none is a model, or tried by the marks
abbrev pub AreTriedBy : Flips → Post → Assignment → Type 0
AreTriedBy NoFlips p m = HasNoFlips p m
AreTriedBy Marked p m = Unit {0}
AreTriedBy Listed p m = Unit {0}

abbrev pub CanBeTried : Flips → Post → Assignment → Type 0
CanBeTried NoFlips p m = HasNoFlips p m
CanBeTried Marked p m = MarksCritical p.question.now.formula m p.marks
CanBeTried Listed p m = Unit {0}

-- of the candidates that keep their phases those whose flip alone is a model
pub record AreFree (p : Post) (m : Assignment) (g kept mask : ℕ) : Type 0 where
  pub free : (i : ℕ) → i < 32 → bit_at mask i ≡ 1 → (bit_at kept i ≡ 1) × IsModel p.question.now.formula (flipped m (var_at g i))
  pub rest : (i : ℕ) → i < 32 → bit_at kept i ≡ 1 → open_at p.loaded.items (var_at g i) ≡ 1 → bit_at mask i ≡ 0
      → IsModel p.question.now.formula (flipped m (var_at g i)) → ⊥

-- the model at a place, as it stands or flipped
abbrev pub source_at : ℕ → Bool → Source
source_at place flip = record { model = place; flip = flip }

-- the witness that a source gives a variable
abbrev pub witness_of : Source → ℕ → Witness
witness_of source x = record { var = x; model = source.model; flip = source.flip }

-- the source gives each variable of the mask a witness
abbrev pub AreWitnessed : Post → ℕ → ℕ → Source → Type 0
AreWitnessed p g mask source = (i : ℕ) → i < 32 → bit_at mask i ≡ 1
    → (candidate p.question.now.formula (var_at g i) ≡ 1) × IsWitness p.question.now p.models (witness_of source (var_at g i))

abbrev pub AreBitsClosed : Post → ℕ → ℕ → Type 0
AreBitsClosed q g mask = (i : ℕ) → i < 32 → bit_at mask i ≡ 1 → IsClosed q (var_at g i)

-- only the seat and the drops change
pub record IsSameButSeat (p q : Post) : Type 0 where
  pub solver : q.solver ≡ p.solver
  pub models : q.models ≡ p.models
  pub marks : q.marks ≡ p.marks

-- only the marks change
pub record IsSameButMarks (p q : Post) : Type 0 where
  pub question : q.question.now ≡ p.question.now
  pub seat : q.seat ≡ p.seat
  pub solver : q.solver ≡ p.solver
  pub models : q.models ≡ p.models
  pub drops : q.drops ≡ p.drops
  pub fixes : q.fixes ≡ p.fixes
  pub copy : q.loaded ≡ p.loaded
  pub budget : q.budget ≡ p.budget

-- the store has the model at the place
pub record IsStoredAt (s : Store) (place : ℕ) (m : Assignment) : Type 0 where
  pub within : place < length s.models
  pub is : model_at s place ≡ m

-- the model gives the variable its phase, and its flip is no model
pub record IsKept (p : Post) (m : Assignment) (x : ℕ) : Type 0 where
  pub value : value_of m x ≡ value_of p.question.now.phases x
  pub critical : IsModel p.question.now.formula (flipped m x) → ⊥

-- each candidate of the group that was open is closed, or the model keeps it
abbrev pub HasDroppedIn : Post → Assignment → ℕ → Post → Type 0
HasDroppedIn p m g q = (i : ℕ) → i < 32 → open_at p.loaded.items (var_at g i) ≡ 1
    → IsClosed q (var_at g i) ⊎ IsKept p m (var_at g i)

-- the same of every group
abbrev pub HasDroppedAll : Post → Assignment → Post → Type 0
HasDroppedAll p m q = (g : ℕ) → g < groups p.question.now.formula.vars → HasDroppedIn p m g q

-- the model behind those of the store is against nothing that is seen open
abbrev pub IsKeepingAt : Store → Post → Type 0
IsKeepingAt s q = (x : ℕ) → 0 < x → open_at q.seat.view.seen x ≡ 1 → IsKeeping q.question.now q.models x (length s.models)
