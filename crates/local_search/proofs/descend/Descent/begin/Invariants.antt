-- The wishes are for these tables.
use Rattle.local_search.specs.Searches.{IsDescentOf}
use Rattle.local_search.proofs.descend.Descent.begin.Given as goal

abbrev pub invariant-loop-lit : goal.invariant-loop-lit
invariant-loop-lit l = IsDescentOf l.tables l.self
