-- What a turn answers, and what each answer says.
use Rattle.std.specs.Prelude.{◌≡◌, ℕ, zero, suc, ◌+◌, ◌-◌, ◌<◌, ◌≤◌, ◌⊎◌, true, List, ◌++◌, length, slice_index, All, Contains, min}
use Rattle.cnf_core.specs.Literals.{Literal}
use Rattle.cnf_core.specs.Formulas.{true_literal}
use Rattle.lrat_log.specs.declared.kind.Kind.TheVariants.{Unit as UnitKind, Core}
use Rattle.lrat_log.specs.Entries.{Recorded, entry_at, learnt_count}
use Rattle.board_core.specs.Subjects.{About, groups}
use Rattle.board_core.specs.Words.{fixed, open_at}
use Rattle.board_core.specs.Rules.{AreEarlier}
use Rattle.board_core.specs.declared.view.View.{View}
use Rattle.board_core.specs.declared.view.Stamped.{Stamped}
use Rattle.core_chunks.specs.Chunks.{open_count}
use Rattle.assumption_solver.specs.Units.{HasUnit}
use Rattle.worker_loop.specs.declared.endings.TurnEnd.{TurnEnd}
use Rattle.worker_loop.specs.declared.endings.TurnEnd.TheVariants.{Going, Done, Spent, Memory}
use Rattle.worker_loop.specs.Posts.{PostState, WorkerState}

-- how many of the variables 1 to n were open and are closed now
unfoldable pub closed_count : List ℕ → List ℕ → ℕ → ℕ
closed_count was now zero = 0
closed_count was now (suc n) = closed_count was now n + (open_at was (suc n) - open_at now (suc n))

-- each group was loaded once more
abbrev pub LoadedOnce : About → View → View → Type 0
LoadedOnce a v u = (g : ℕ) → g < groups a.formula.vars → slice_index u.loads g ≡ slice_index v.loads g + 1

-- the literal of each variable that was fixed is a root unit, or its origin was looked for
abbrev pub Heard : PostState → PostState → Type 0
Heard p q = (x : ℕ) → 0 < x → x ≤ p.about.formula.vars → fixed p.seat.view.seen x ≡ 1
    → HasUnit q.log (true_literal p.about.phases x)
    ⊎ (slice_index p.seat.view.looks (x - 1) < slice_index q.seat.view.looks (x - 1))

-- the phase literal of each origin that the view has found since is a root unit
pub record AreTaken (a : About) (v u : View) (L : Recorded) : Type 0 where
  pub found : List Stamped
  pub imports : u.imports ≡ v.imports ++ found
  pub units : All (λ (p : Stamped). HasUnit L (true_literal a.phases p.var)) found

-- a phase literal whose variable was open
pub record WasOpen (p : PostState) (l : Literal) : Type 0 where
  pub phase : l ≡ true_literal p.about.phases l.var
  pub was_open : open_at p.seat.view.loaded l.var ≡ 1

-- the log has a unit or a core of phase literals that were open, one of which is closed now
pub record IsRefuted (p : PostState) : Type 0 where
  pub place : ℕ
  pub within : place < length p.log.entries
  pub kind : ((entry_at p.log place).kind ≡ UnitKind) ⊎ ((entry_at p.log place).kind ≡ Core)
  pub were_open : All (WasOpen p) (entry_at p.log place).literals
  pub one : Literal
  pub among : Contains (entry_at p.log place).literals one
  pub closed : open_at p.seat.view.seen one.var ≡ 0

-- a candidate that was open is closed; and as many are as a block has, or a refutation closed one
pub record Goes (p : PostState) : Type 0 where
  pub some : 0 < closed_count p.seat.view.loaded p.seat.view.seen p.about.formula.vars
  pub share : (min 256 (open_count p.seat.view.loaded p.about.formula.vars)
      ≤ closed_count p.seat.view.loaded p.seat.view.seen p.about.formula.vars) ⊎ IsRefuted p

-- all groups were loaded first, some candidate was open, what others fixed was heard of, and each origin that was found
-- is a root unit
pub record IsWorked (p q : PostState) : Type 0 where
  pub once : LoadedOnce p.about p.seat.view q.seat.view
  pub after : AreEarlier (groups p.about.formula.vars) p.seat.view.seen q.seat.view.loaded
  pub some_open : 0 < open_count q.seat.view.loaded p.about.formula.vars
  pub heard : Heard p q
  pub taken : AreTaken p.about p.seat.view q.seat.view q.log

-- all groups were loaded, and show nothing open
pub record IsDone (p q : PostState) : Type 0 where
  pub once : LoadedOnce p.about p.seat.view q.seat.view
  pub seen : q.seat.view.seen ≡ q.seat.view.loaded
  pub none_open : open_count q.seat.view.loaded p.about.formula.vars ≡ 0

abbrev pub TurnSays : TurnEnd → PostState → WorkerState → Type 0
TurnSays Going p w = IsWorked p w.post × Goes w.post
TurnSays Done p w = IsDone p w.post
TurnSays Spent p w = IsWorked p w.post × (learnt_count w.post.log.entries ≡ w.post.budget)
TurnSays Memory p w = w.failed ≡ true
