use Rattle.watch_lists.specs.Clauses.{AreClean}
use Rattle.propagation_bench.proofs.clauses.random_clauses.Given as goal

abbrev pub invariant-loop-draw : goal.invariant-loop-draw
invariant-loop-draw l = AreClean l.vars l.arena

abbrev pub invariant-loop-draw-2 : goal.invariant-loop-draw-2
invariant-loop-draw-2 l = AreClean l.vars l.arena
