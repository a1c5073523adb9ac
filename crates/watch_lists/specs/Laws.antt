-- What holds of every arena, lists and trail that are ready for propagation.
use Rattle.std.specs.Prelude.{◌≡◌, ℕ, ◌<◌, ◌≤◌, ◌⊎◌, true, length}
use Rattle.cnf_core.specs.Literals.{Assignment, is_true, clause_true}
use Rattle.clause_arena.specs.Entries.{Entries, entry_at}
use Rattle.trail_core.specs.Trails.{TrailState, assigned_at, HasVariable, IsTrail, IsBacktracked}
use Rattle.watch_lists.specs.Clauses.{IsLong, AreClean, IsSettledBelow, HasTrue}
use Rattle.watch_lists.specs.Lists.{WatchLists}
use Rattle.watch_lists.specs.Watching.{IsWatched, IsReady}

-- the assignment makes each entry's literal true
abbrev pub Agrees : Assignment → TrailState → Type 0
Agrees m t = (k : ℕ) → k < length t.entries → is_true m (assigned_at t.entries k).lit ≡ true

-- every entry was propagated, and every variable has a value
pub record IsComplete (t : TrailState) : Type 0 where
  pub quiet : t.gone ≡ length t.entries
  pub valued : (v : ℕ) → 0 < v → v ≤ t.vars → HasVariable t.entries v

-- a quiet trail that values all variables is a model, where each clause has two or more literals, or one that
-- stands on the trail
abbrev pub QuietTrailIsModel : Type 0
QuietTrailIsModel = (a : Entries) (t : TrailState) (m : Assignment) → IsTrail t → IsWatched a t
    → AreClean t.vars a → IsComplete t → Agrees m t
    → (r : ℕ) → IsLong a r ⊎ HasTrue a t.entries r → clause_true m (entry_at a r).lits ≡ true

-- going back to a level keeps all ready
abbrev pub ReadyAfterBacktrack : Type 0
ReadyAfterBacktrack = (a : Entries) (w : WatchLists) (t u : TrailState) (target : ℕ) → IsReady a w t → target ≤ t.level
    → IsBacktracked target t u → IsReady a w u

-- before the present level nothing was left to propagate
abbrev pub SettledBelowLevel : Type 0
SettledBelowLevel = (a : Entries) (w : WatchLists) (t : TrailState) → IsReady a w t → IsTrail t → IsSettledBelow a t.entries t.level
