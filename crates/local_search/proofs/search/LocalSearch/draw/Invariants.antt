-- The fixed values stay.
use Rattle.local_search.specs.Searches.{IsSearchOf}
use Rattle.local_search.specs.Steps.States.{Keeps}
use Rattle.local_search.proofs.search.LocalSearch.draw.Given as goal

abbrev pub invariant-loop-i : goal.invariant-loop-i
invariant-loop-i l = record {
  sizes : IsSearchOf l.tables l.self;
  keeps : Keeps l.fixed l.fn.values l.values;
}
