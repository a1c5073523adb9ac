-- The rule of the two watched literals (Moskewicz, Madigan, Zhao, Zhang and Malik, 2001).
use Rattle.std.specs.Prelude.{◌≡◌, ℕ, ◌<◌, ◌≤◌, length}
use Rattle.cnf_core.specs.Literals.{negated}
use Rattle.clause_arena.specs.Entries.{Entries, literal_of}
use Rattle.trail_core.specs.Trails.{TrailState, assigned_at}
use Rattle.watch_lists.specs.Clauses.{IsLong, HasTrueBy}
use Rattle.watch_lists.specs.Lists.{WatchLists, IsAttached}

-- the first two literals of a live clause are its watches: where one of them is false by a propagated
-- entry, some literal of the clause is true at that entry's level or a lower one
pub record IsWatched (a : Entries) (t : TrailState) : Type 0 where
  pub rule : (r i p : ℕ) → IsLong a r → i < 2 → p < t.gone → (assigned_at t.entries p).lit ≡ negated (literal_of a r i)
      → HasTrueBy a t.entries r (assigned_at t.entries p).level

-- arena, watches and trail are ready for propagation. That no more entries were propagated than there
-- are holds of every trail
pub record IsReady (a : Entries) (w : WatchLists) (t : TrailState) : Type 0 where
  pub vars : w.vars ≡ t.vars
  pub attached : IsAttached a w
  pub watched : IsWatched a t
  pub gone : t.gone ≤ length t.entries
  pub present : (k : ℕ) → t.gone ≤ k → k < length t.entries → (assigned_at t.entries k).level ≡ t.level
