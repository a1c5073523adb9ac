-- What a search keeps from step to step.
use Rattle.std.specs.Prelude.{◌≡◌, ℕ, ◌<◌, List, length}
use Rattle.clause_arena.specs.Entries.{Entries}
use Rattle.trail_core.specs.declared.entry.Assigned.{Assigned}
use Rattle.trail_core.specs.Trails.{TrailState, assigned_at}
use Rattle.watch_lists.specs.Lists.{WatchLists}
use Rattle.watch_lists.specs.Watching.{IsReady}
use Rattle.conflict_analysis.specs.Reasons.{IsReasoned, IsUnit}
use Rattle.assumption_solver.specs.Steps.Plain.{AreLong}

-- the reasons of the root entries are units
abbrev pub HaveUnits : List Assigned → Type 0
HaveUnits es = (k : ℕ) → k < length es → (assigned_at es k).level ≡ 0 → IsUnit (assigned_at es k)

-- an analyser for so many variables, and arena, watches and trail: the rule of the watches holds, the
-- reasons imply their entries, units stand on the trail alone, and above the root its units are known
pub record IsSearching (n : ℕ) (a : Entries) (w : WatchLists) (t : TrailState) : Type 0 where
  pub vars : n ≡ t.vars
  pub ready : IsReady a w t
  pub reasoned : IsReasoned a t.entries
  pub all_long : AreLong a
  pub units : 0 < t.level → HaveUnits t.entries
