use Rattle.watch_lists.specs.Clauses.{AreClean}
use Rattle.watch_lists.proofs.tests.compare.Given as goal

abbrev pub invariant-loop-clause : goal.invariant-loop-clause
invariant-loop-clause g l = AreClean 6 l.arena
