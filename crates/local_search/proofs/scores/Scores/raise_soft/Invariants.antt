-- The sizes stay, and no more visits are left.
use Rattle.std.proofs.Common.{◌≡◌, ◌≤◌}
use Rattle.local_search.proofs.scores.Scores.raise_soft.Given as goal

abbrev pub invariant-loop-place : goal.invariant-loop-place
invariant-loop-place l = record {
  same : l.self ≡ l.fn.self;
  most : l.left ≤ l.visits;
}
