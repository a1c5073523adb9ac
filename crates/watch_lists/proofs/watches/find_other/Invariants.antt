-- The places that were passed have false literals.
use Rattle.watch_lists.specs.Steps.Visiting.{AreFalseBelow}
use Rattle.watch_lists.proofs.watches.find_other.Given as goal

abbrev pub invariant-loop-k : goal.invariant-loop-k
invariant-loop-k l = AreFalseBelow l.arena l.trail.entries l.fn.r l.k
