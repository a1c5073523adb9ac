-- What a search with a log keeps from step to step.
use Rattle.std.specs.Prelude.{◌≡◌, ℕ, ◌<◌, ◌≤◌, true, List, length, Contains}
use Rattle.clause_arena.specs.Entries.{Entry, Entries}
use Rattle.trail_core.specs.declared.entry.Assigned.{Assigned}
use Rattle.trail_core.specs.declared.entry.Reason.TheVariants.{Unit as ByUnit}
use Rattle.trail_core.specs.Trails.{TrailState, assigned_at}
use Rattle.watch_lists.specs.Lists.{WatchLists}
use Rattle.conflict_analysis.specs.Members.{HasClause}
use Rattle.conflict_analysis.specs.Reasons.{IsUnit}
use Rattle.lrat_log.specs.Entries.{Recorded, known_after}
use Rattle.lrat_log.specs.Fresh.{learnt_in}
use Rattle.search_policy.specs.Epochs.{EpochState, IsInEpoch}
use Rattle.assumption_solver.specs.Units.{IsUnitAt}
use Rattle.assumption_solver.specs.Steps.Searching.{IsSearching}
use Rattle.assumption_solver.specs.Steps.Standing.{KeepsInputs, KeepsLearnt}

-- the log knows each live clause by its id, and each unit of the trail
pub record IsLogged (a : Entries) (es : List Assigned) (L : Recorded) : Type 0 where
  pub clauses : (e : Entry) → Contains a e → e.live ≡ true → HasClause (known_after L.formula L.entries) e.id e.lits
  pub units : (k id : ℕ) → k < length es → (assigned_at es k).reason ≡ ByUnit id → IsUnitAt L id (assigned_at es k).lit

-- so many of the first entries have units as reasons
pub record IsSettled (es : List Assigned) (settled : ℕ) : Type 0 where
  pub fits : settled ≤ length es
  pub units : (k : ℕ) → k < settled → IsUnit (assigned_at es k)

-- what holds whatever was learnt in the query
pub record IsBearing (n settled : ℕ) (a : Entries) (w : WatchLists) (t : TrailState) (L : Recorded) : Type 0 where
  pub searching : IsSearching n a w t
  pub vars : t.vars ≡ L.formula.vars
  pub settles : IsSettled t.entries settled
  pub logged : IsLogged a t.entries L
  pub inputs : KeepsInputs a t.entries L.formula.clauses

-- the clauses of the present epoch stand too
pub record IsSolving (n settled : ℕ) (a : Entries) (w : WatchLists) (t : TrailState) (L : Recorded) (epochs : EpochState)
    : Type 0 where
  pub bears : IsBearing n settled a w t L
  pub learnt : KeepsLearnt a t.entries (learnt_in L.entries L.query) epochs.epoch
  pub counted : epochs.count ≡ length (learnt_in L.entries L.query)
  pub in_epoch : IsInEpoch epochs
