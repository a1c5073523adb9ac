-- How a post moves by the steps of a turn.
use Rattle.std.specs.Prelude.{◌≡◌, ℕ, zero, suc, ◌+◌, ◌-◌, ◌*◌, ◌<◌, ◌≤◌, ◌⊎◌, not, List, slice_index}
use Rattle.std.specs.Int.{bit_at}
use Rattle.cnf_core.specs.Literals.{Literal, Assignment, negated, value_of}
use Rattle.cnf_core.specs.Formulas.{true_literal}
use Rattle.lrat_log.specs.Entries.{Recorded, learnt_count}
use Rattle.lrat_log.specs.Laws.{learning_queries}
use Rattle.board_core.specs.Subjects.{groups}
use Rattle.board_core.specs.Words.{fixed, open_at}
use Rattle.board_core.specs.Rules.{AreEarlier}
use Rattle.candidate_words.specs.Seats.{Board, Sits}
use Rattle.assumption_solver.specs.Units.{HasUnit}
use Rattle.core_chunks.specs.Chunks.{open_count, IsBlockOf}
use Rattle.worker_loop.specs.declared.post.Post.{Post}
use Rattle.worker_loop.specs.Posts.{IsLonger}
use Rattle.worker_loop.specs.Evidence.{IsSettled}
use Rattle.worker_loop.specs.Turns.{AreTaken}
use Rattle.worker_loop.specs.Steps.Held.{IsPost}

-- the copy of the words has what the view has loaded
abbrev pub IsLoaded : Post → Type 0
IsLoaded p = p.loaded.items ≡ p.seat.view.loaded

-- a step after what the others fixed was heard: nothing is loaded or imported, what is seen is no earlier, the log only grew
pub record IsOnward (p q : Post) : Type 0 where
  pub question : q.question.now ≡ p.question.now
  pub table : q.seat.table ≡ p.seat.table
  pub number : q.seat.view.number ≡ p.seat.view.number
  pub next : q.seat.view.next ≡ p.seat.view.next
  pub out : q.seat.view.out ≡ p.seat.view.out
  pub loaded : q.seat.view.loaded ≡ p.seat.view.loaded
  pub loads : q.seat.view.loads ≡ p.seat.view.loads
  pub copy : q.loaded.items ≡ p.loaded.items
  pub seen : AreEarlier (groups p.question.now.formula.vars) p.seat.view.seen q.seat.view.seen
  pub looks : (x : ℕ) → slice_index p.seat.view.looks x ≤ slice_index q.seat.view.looks x
  pub imports : q.seat.view.imports ≡ p.seat.view.imports
  pub log : IsLonger p.solver.log q.solver.log
  pub budget : q.budget ≡ p.budget

-- a step after the loads, which may import, also where memory for what was imported was wanting
pub record IsHearing (p q : Post) : Type 0 where
  pub question : q.question.now ≡ p.question.now
  pub table : q.seat.table ≡ p.seat.table
  pub number : q.seat.view.number ≡ p.seat.view.number
  pub next : q.seat.view.next ≡ p.seat.view.next
  pub out : q.seat.view.out ≡ p.seat.view.out
  pub loaded : q.seat.view.loaded ≡ p.seat.view.loaded
  pub loads : q.seat.view.loads ≡ p.seat.view.loads
  pub copy : q.loaded.items ≡ p.loaded.items
  pub seen : AreEarlier (groups p.question.now.formula.vars) p.seat.view.seen q.seat.view.seen
  pub looks : (x : ℕ) → slice_index p.seat.view.looks x ≤ slice_index q.seat.view.looks x
  pub log : IsLonger p.solver.log q.solver.log
  pub budget : q.budget ≡ p.budget

-- all groups were loaded into the view and into the copy, and nothing else changed
pub record HasLoadedAll (p q : Post) : Type 0 where
  pub question : q.question.now ≡ p.question.now
  pub table : q.seat.table ≡ p.seat.table
  pub number : q.seat.view.number ≡ p.seat.view.number
  pub next : q.seat.view.next ≡ p.seat.view.next
  pub out : q.seat.view.out ≡ p.seat.view.out
  pub looks : q.seat.view.looks ≡ p.seat.view.looks
  pub imports : q.seat.view.imports ≡ p.seat.view.imports
  pub solver : q.solver ≡ p.solver
  pub models : q.models ≡ p.models
  pub drops : q.drops ≡ p.drops
  pub budget : q.budget ≡ p.budget
  pub once : (g : ℕ) → g < groups p.question.now.formula.vars
      → slice_index q.seat.view.loads g ≡ slice_index p.seat.view.loads g + 1
  pub seen : q.seat.view.seen ≡ q.seat.view.loaded
  pub later : AreEarlier (groups p.question.now.formula.vars) p.seat.view.seen q.seat.view.loaded

-- the variable's phase literal is a root unit now, or was looked for
abbrev pub HasHeardOne : Post → Post → ℕ → Type 0
HasHeardOne p q x = HasUnit q.solver.log (true_literal p.question.now.phases x)
    ⊎ (slice_index p.seat.view.looks (x - 1) < slice_index q.seat.view.looks (x - 1))

-- so is what was fixed in the loaded words, and so are the variables of a group's mask
abbrev pub HasHeard : Post → Post → Type 0
HasHeard p q = (x : ℕ) → 0 < x → x ≤ p.question.now.formula.vars → fixed p.loaded.items x ≡ 1
    → HasHeardOne p q x

-- each origin that was found since is a root unit
abbrev pub HasTaken : Post → Post → Type 0
HasTaken p q = AreTaken p.question.now p.seat.view q.seat.view q.solver.log

-- at most so many queries more have learnt something, and none where nothing was learnt
pub record IsAskedTimes (k : ℕ) (old new : Recorded) : Type 0 where
  pub most : learning_queries new.entries ≤ learning_queries old.entries + k
  pub none : learnt_count new.entries ≡ learnt_count old.entries → learning_queries new.entries ≡ learning_queries old.entries

-- the literals of the variables that are opposite to their phases
abbrev pub against_phase : Assignment → ℕ → Literal
against_phase phases x = negated (true_literal phases x)

-- a phase literal of a candidate that was open
pub record IsOpenPhase (p : Post) (l : Literal) : Type 0 where
  pub phase : l ≡ true_literal p.question.now.phases l.var
  pub was_open : open_at p.loaded.items l.var ≡ 1

-- the variable was open, and is closed now
abbrev pub IsClosed : Post → ℕ → Type 0
IsClosed q x = open_at q.seat.view.seen x ≡ 0

-- each candidate that was open and to which the model gives the other value is closed
abbrev pub IsDropped : Post → Assignment → Post → Type 0
IsDropped p m q = (x : ℕ) → 0 < x → open_at p.loaded.items x ≡ 1
    → value_of m x ≡ not (value_of p.question.now.phases x) → IsClosed q x

abbrev pub HasHeardBit : Post → Post → ℕ → ℕ → ℕ → Type 0
HasHeardBit p q g mask i = bit_at mask i ≡ 1 → HasHeardOne p q (suc (32 * g + i))

abbrev pub HasHeardBits : Post → Post → ℕ → ℕ → Type 0
HasHeardBits p q g mask = (i : ℕ) → i < 32 → bit_at mask i ≡ 1 → HasHeardOne p q (suc (32 * g + i))

-- the variables of a group that the loaded words show fixed
abbrev pub HasHeardIn : Post → Post → ℕ → Type 0
HasHeardIn p q g = (i : ℕ) → i < 32 → fixed p.loaded.items (suc (32 * g + i)) ≡ 1 → HasHeardOne p q (suc (32 * g + i))

-- a step that takes over literals, and does nothing else: no model, nothing seen, nothing learnt
pub record HasListened (b : Board) (p q : Post) : Type 0 where
  pub post : IsPost q
  pub sits : Sits b q.seat
  pub hearing : IsHearing p q
  pub models : q.models ≡ p.models
  pub seen : q.seat.view.seen ≡ p.seat.view.seen
  pub asked : IsAskedTimes 0 p.solver.log q.solver.log

-- looks at blocks, by which nothing is learnt and nothing closed
pub record IsLooking (p q : Post) : Type 0 where
  pub post : IsPost q
  pub seat : q.seat ≡ p.seat
  pub onward : IsOnward p q
  pub models : q.models ≡ p.models
  pub asked : IsAskedTimes 0 p.solver.log q.solver.log
  pub learnt : learnt_count q.solver.log.entries ≡ learnt_count p.solver.log.entries

-- a query of so many conflicts learns something in one query at most, and nothing where it has none
abbrev pub queries_of : ℕ → ℕ
queries_of zero = 0
queries_of (suc conflicts) = 1

-- nothing is stored, and a query of at most so many conflicts was given up
pub record IsInVain (conflicts : ℕ) (p q : Post) : Type 0 where
  pub models : q.models ≡ p.models
  pub asked : IsAskedTimes (queries_of conflicts) p.solver.log q.solver.log

-- a query of at most so many conflicts may be given up: the candidates that are closed pay for it
abbrev pub IsAffordable : ℕ → Post → Type 0
IsAffordable zero p = Unit {0}
IsAffordable (suc conflicts) p =
    learning_queries p.solver.log.entries + 1 + 2 * open_count p.loaded.items p.question.now.formula.vars ≤ 2 * p.question.now.formula.vars + 1

-- nothing is stored, and the queries that were given up learnt nothing, or are paid for
pub record IsGivenUp (p q : Post) : Type 0 where
  pub models : q.models ≡ p.models
  pub paid : IsAskedTimes 0 p.solver.log q.solver.log
      ⊎ (learning_queries q.solver.log.entries + 2 * open_count p.loaded.items p.question.now.formula.vars ≤ 2 * p.question.now.formula.vars + 1)

-- nothing changes but the group of the next block
pub record IsUnmoved (p q : Post) : Type 0 where
  pub question : q.question.now ≡ p.question.now
  pub seat : q.seat ≡ p.seat
  pub solver : q.solver ≡ p.solver
  pub models : q.models ≡ p.models
  pub drops : q.drops ≡ p.drops
  pub fixes : q.fixes ≡ p.fixes
  pub copy : q.loaded.items ≡ p.loaded.items
  pub budget : q.budget ≡ p.budget

-- only the marks of root units change
pub record IsSameButRooted (p q : Post) : Type 0 where
  pub question : q.question.now ≡ p.question.now
  pub seat : q.seat ≡ p.seat
  pub solver : q.solver ≡ p.solver
  pub models : q.models ≡ p.models
  pub copy : q.loaded ≡ p.loaded
  pub budget : q.budget ≡ p.budget

-- where all stored models were settled, they are
abbrev pub KeepsSettled : Post → Post → Type 0
KeepsSettled p q = IsSettled p.question.now p.seat.view p.models → IsSettled q.question.now q.seat.view q.models

-- a block of the words, however many variables there are, as long as none past them is open
abbrev pub IsBlockOfAll : List ℕ → ℕ → List ℕ → Type 0
IsBlockOfAll ws size block = (n : ℕ) → ((x : ℕ) → n < x → open_at ws x ≡ 0) → IsBlockOf ws n size block
