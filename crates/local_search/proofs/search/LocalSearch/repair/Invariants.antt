-- The search goes on, and less is left.
use Rattle.std.proofs.Common.{◌≤◌}
use Rattle.local_search.specs.Steps.States.{IsOnward}
use Rattle.local_search.proofs.search.LocalSearch.repair.Given as goal

abbrev pub invariant-loop-since : goal.invariant-loop-since
invariant-loop-since l = record {
  onward : IsOnward l.tables l.fn.self l.self;
  most : l.left ≤ l.effort;
}

abbrev pub decreases-loop-since : goal.decreases-loop-since
decreases-loop-since l = l.left
