-- The search goes on, and the best model is so many flips back.
use Rattle.std.proofs.Common.{◌≤◌}
use Rattle.local_search.specs.Searches.{IsDescentOf}
use Rattle.local_search.specs.Steps.States.{IsOnward}
use Rattle.local_search.specs.Steps.Descents.{IsUndone}
use Rattle.local_search.proofs.descend.Descent.run.Given as goal

abbrev pub invariant-loop-since : goal.invariant-loop-since
invariant-loop-since l = record {
  descent : IsDescentOf l.tables l.self;
  onward : IsOnward l.tables l.fn.search l.search;
  undone : IsUndone l.tables.formula l.search.held l.search.values l.self.journal.items l.since;
  since : l.since ≤ 20000;
  most : l.left ≤ l.effort;
}

abbrev pub decreases-loop-since : goal.decreases-loop-since
decreases-loop-since l = l.left
