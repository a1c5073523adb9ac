-- The clauses before the place are live.
use Rattle.std.proofs.Common.{◌≡◌, ◌-◌, ◌<◌, ◌≤◌, ℕ, true, length}
use Rattle.clause_arena.specs.Steps.Layout.{mark_at}
use Rattle.clause_arena.proofs.arena.first_removed.Given as goal

abbrev pub invariant-loop-place : goal.invariant-loop-place
invariant-loop-place l = record {
  within : l.place ≤ length l.marks;
  live : (k : ℕ) → k < l.place → (mark_at l.marks k).live ≡ true;
}

abbrev pub decreases-loop-place : goal.decreases-loop-place
decreases-loop-place l = length l.marks - l.place
