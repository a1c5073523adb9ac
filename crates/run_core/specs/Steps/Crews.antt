-- The workers of a run in their slots, before they run and after.
use Rattle.std.specs.Prelude.{◌≡◌, ℕ, ◌<◌, ◌≤◌, ◌⊎◌, List, [], ◌∷◌, length, take, slice_index_or}
use Rattle.cnf_core.specs.Literals.{Assignment}
use Rattle.board_core.specs.Subjects.{About}
use Rattle.board_core.specs.Words.{times}
use Rattle.candidate_words.specs.Seats.{Board, Sitter, Sits}
use Rattle.core_chunks.specs.Chunks.{open_count}
use Rattle.worker_loop.specs.declared.findings.Findings.{Findings}
use Rattle.worker_loop.specs.Posts.{WorkerState, IsUnused, IsNewPost}
use Rattle.worker_loop.specs.Runs.{HasFewModels, IsFound}
use Rattle.run_core.specs.declared.slot.Recruit.{Recruit}
use Rattle.run_core.specs.declared.slot.Slot.{Slot}
use Rattle.run_core.specs.declared.slot.Slot.TheVariants.{Ready, Called, Done, Left, Empty}

-- the worker of this number, which hasn't run, at its seat
pub record IsReady (b : Board) (limit n : ℕ) (w : WorkerState) : Type 0 where
  pub number : w.number ≡ n
  pub about : w.post.about ≡ b.about
  pub sits : Sits b w.post.seat
  pub seat : w.post.seat.view.number ≡ n
  pub few : HasFewModels 2 w.post
  pub budget : w.post.budget ≡ limit

-- the seat of a worker that isn't made
pub record IsLeft (b : Board) (n : ℕ) (s : Sitter) : Type 0 where
  pub sits : Sits b s
  pub number : s.view.number ≡ n
  pub unused : IsUnused b.about s

-- what the worker of this number is made from
pub record IsCalled {X : Type 0} {P : X → Type 0} (b : Board) (limit n : ℕ) (r : Recruit X P) : Type 0 where
  pub number : r.share.number ≡ n
  pub among : n < r.share.workers
  pub budget : r.share.budget ≡ limit
  pub some : 1 ≤ limit
  pub most : limit ≤ 1099511627776
  pub left : IsLeft b n r.seat

-- a worker was made from it, and what that handed in
pub record HasServed {X : Type 0} {P : X → Type 0} (b : Board) (r : Recruit X P) (f : Findings) : Type 0 where
  pub worker : WorkerState
  pub number : worker.number ≡ r.share.number
  pub new : IsNewPost b.about r.seat r.share.budget worker.post
  pub found : IsFound b worker f

-- what the worker of this number handed in
pub record IsHome (b : Board) (budget n : ℕ) (f : Findings) : Type 0 where
  pub worker : WorkerState
  pub ready : IsReady b budget n worker
  pub found : IsFound b worker f

-- the numbers from one to below another, and no others
pub record IsOut (first end : ℕ) (out : List ℕ) : Type 0 where
  pub each : (j : ℕ) → first ≤ j → j < end → 1 ≤ times j out
  pub only : (j : ℕ) → 1 ≤ times j out → (first ≤ j) × (j < end)

-- the root, which has done nothing yet but to split off the seats with the numbers from 1 to below this one
pub record IsRootAt (b : Board) (next : ℕ) (s : Sitter) : Type 0 where
  pub sits : Sits b s
  pub unused : IsUnused b.about s
  pub number : s.view.number ≡ 0
  pub next_is : s.view.next ≡ next
  pub out : IsOut 1 next s.view.out

-- the worker at the root, which has the first model
pub record IsAtRoot (a : About) (workers : ℕ) (w : WorkerState) : Type 0 where
  pub models : take 1 w.post.models.models ≡ a.phases ∷ []
  pub out : IsOut 1 workers w.post.seat.view.out

-- the slot of this number has the seat of a worker that isn't made yet
abbrev pub IsVacant : {X : Type 0} {P : X → Type 0} → Board → ℕ → Slot X P → Type 0
IsVacant b n (Ready w) = ⊥
IsVacant b n (Called r) = ⊥
IsVacant b n (Done f) = ⊥
IsVacant b n (Left s) = IsLeft b n s
IsVacant b n Empty = ⊥

-- the slot of this number before its worker runs, and after
abbrev pub IsStaffed : {X : Type 0} {P : X → Type 0} → Board → ℕ → ℕ → Slot X P → Type 0
IsStaffed b budget n (Ready w) = IsReady b budget n w
IsStaffed b budget n (Called r) = IsCalled b budget n r
IsStaffed b budget n (Done f) = ⊥
IsStaffed b budget n (Left s) = ⊥
IsStaffed b budget n Empty = ⊥

-- or it has a seat that nobody is called to
abbrev pub IsPlaced : {X : Type 0} {P : X → Type 0} → Board → ℕ → ℕ → Slot X P → Type 0
IsPlaced b budget n (Ready w) = IsReady b budget n w
IsPlaced b budget n (Called r) = IsCalled b budget n r
IsPlaced b budget n (Done f) = ⊥
IsPlaced b budget n (Left s) = IsLeft b n s
IsPlaced b budget n Empty = ⊥

-- the first worker has seen nothing open
abbrev pub IsClosed : {X : Type 0} {P : X → Type 0} → Slot X P → Type 0
IsClosed (Ready w) = open_count w.post.seat.view.seen w.post.about.formula.vars ≡ 0
IsClosed (Called r) = ⊥
IsClosed (Done f) = ⊥
IsClosed (Left s) = ⊥
IsClosed Empty = ⊥

abbrev pub IsBack : {X : Type 0} {P : X → Type 0} → Board → ℕ → ℕ → Slot X P → Type 0
IsBack b budget n (Ready w) = ⊥
IsBack b budget n (Called r) = ⊥
IsBack b budget n (Done f) = IsHome b budget n f
IsBack b budget n (Left s) = IsLeft b n s
IsBack b budget n Empty = ⊥

-- the first worker sits at the root and has the first model, before it runs and after
abbrev pub IsFirstReady : {X : Type 0} {P : X → Type 0} → About → ℕ → Slot X P → Type 0
IsFirstReady a workers (Ready w) = IsAtRoot a workers w
IsFirstReady a workers (Called r) = ⊥
IsFirstReady a workers (Done f) = ⊥
IsFirstReady a workers (Left s) = ⊥
IsFirstReady a workers Empty = ⊥

abbrev pub IsFirstBack : {X : Type 0} {P : X → Type 0} → About → ℕ → Slot X P → Type 0
IsFirstBack a workers (Ready w) = ⊥
IsFirstBack a workers (Called r) = ⊥
IsFirstBack a workers (Done f) = (take 1 f.models.models ≡ a.phases ∷ []) × IsOut 1 workers f.seat.view.out
IsFirstBack a workers (Left s) = ⊥
IsFirstBack a workers Empty = ⊥

-- a worker in the slot may run
abbrev pub MayRun : {X : Type 0} {P : X → Type 0} → Board → Slot X P → Type 0
MayRun b (Ready w) = Sits b w.post.seat × HasFewModels 2 w.post
MayRun b (Called r) = IsCalled b r.share.budget r.share.number r
MayRun b (Done f) = Unit {0}
MayRun b (Left s) = Unit {0}
MayRun b Empty = Unit {0}

-- the worker of the slot ran; a slot without one is as it was
abbrev pub Ran : {X : Type 0} {P : X → Type 0} → Board → Slot X P → Slot X P → Type 0
Ran b (Ready w) (Done f) = IsFound b w f
Ran b (Ready w) (Ready v) = ⊥
Ran b (Ready w) (Called r) = ⊥
Ran b (Ready w) (Left s) = ⊥
Ran b (Ready w) Empty = ⊥
Ran b (Called r) (Done f) = HasServed b r f
Ran b (Called r) (Left s) = s ≡ r.seat
Ran b (Called r) (Ready w) = ⊥
Ran b (Called r) (Called q) = ⊥
Ran b (Called r) Empty = ⊥
Ran b (Done f) slot = slot ≡ Done f
Ran b (Left s) slot = slot ≡ Left s
Ran b Empty slot = slot ≡ Empty

-- so many slots, of which those from one on up to an end have seats without workers
pub record AreVacant {X : Type 0} {P : X → Type 0} (b : Board) (count first end : ℕ) (slots : List (Slot X P)) : Type 0 where
  pub many : length slots ≡ count
  pub vacant : (i : ℕ) (d : Slot X P) → first ≤ i → i < end → IsVacant b i (slice_index_or slots i d)

-- the slots while seats are still split off
pub record IsSplitting {X : Type 0} {P : X → Type 0} (b : Board) (workers : ℕ) (s : Sitter) (slots : List (Slot X P)) : Type 0 where
  pub some : 1 ≤ length slots
  pub most : length slots ≤ workers
  pub root : IsRootAt b (length slots) s
  pub seats : AreVacant b (length slots) 1 (length slots) slots

-- the slots while the workers from this number on aren't made yet
pub record IsHiring {X : Type 0} {P : X → Type 0} (b : Board) (workers budget number : ℕ) (slots : List (Slot X P)) : Type 0 where
  pub seats : AreVacant b workers number workers slots
  pub staffed : (i : ℕ) (d : Slot X P) → i < number → IsStaffed b budget i (slice_index_or slots i d)
  pub first : (d : Slot X P) → IsFirstReady b.about workers (slice_index_or slots 0 d)

-- the workers of the slots before this place ran, and the others didn't
pub record HaveRun {X : Type 0} {P : X → Type 0} (b : Board) (place : ℕ) (old new : List (Slot X P)) : Type 0 where
  pub len : length new ≡ length old
  pub ran : (i : ℕ) (d : Slot X P) → i < place → Ran b (slice_index_or old i d) (slice_index_or new i d)
  pub rest : (i : ℕ) (d : Slot X P) → place ≤ i → slice_index_or new i d ≡ slice_index_or old i d

-- the crew of a run: so many slots, of which the first has the first worker. To each of the others somebody is called,
-- unless the first has closed all
pub record IsCrew {X : Type 0} {P : X → Type 0} (b : Board) (workers budget : ℕ) (slots : List (Slot X P)) : Type 0 where
  pub count : length slots ≡ workers
  pub placed : (i : ℕ) (d : Slot X P) → i < workers → IsPlaced b budget i (slice_index_or slots i d)
  pub called : ((i : ℕ) (d : Slot X P) → i < workers → IsStaffed b budget i (slice_index_or slots i d)) ⊎ ((d : Slot X P) → IsClosed (slice_index_or slots 0 d))
  pub first : (d : Slot X P) → IsFirstReady b.about workers (slice_index_or slots 0 d)

-- and what came back
pub record IsReturned {X : Type 0} {P : X → Type 0} (b : Board) (workers budget : ℕ) (slots : List (Slot X P)) : Type 0 where
  pub count : length slots ≡ workers
  pub back : (i : ℕ) (d : Slot X P) → i < workers → IsBack b budget i (slice_index_or slots i d)
  pub first : (d : Slot X P) → IsFirstBack b.about workers (slice_index_or slots 0 d)
