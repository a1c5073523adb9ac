-- The flips behind the place were taken back.
use Rattle.std.proofs.Common.{◌≡◌, ◌≤◌}
use Rattle.local_search.specs.Searches.{IsSearchOf}
use Rattle.local_search.specs.Steps.States.{Keeps}
use Rattle.local_search.specs.Steps.Descents.{IsUndone}
use Rattle.local_search.proofs.descend.undo.Given as goal

abbrev pub invariant-loop-place : goal.invariant-loop-place
invariant-loop-place l = record {
  sizes : IsSearchOf l.tables l.search;
  held : l.search.held ≡ l.fn.search.held;
  undone : IsUndone l.tables.formula l.search.held l.search.values l.journal l.place;
  kept : Keeps l.fn.search.held l.fn.search.values l.search.values;
  low : l.place ≤ l.flips;
}

abbrev pub decreases-loop-place : goal.decreases-loop-place
decreases-loop-place l = l.place
