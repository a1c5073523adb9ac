-- The best so far may be flipped.
use Rattle.std.proofs.Common.{IfSome}
use Rattle.local_search.specs.Steps.States.{IsFree}
use Rattle.local_search.proofs.scores.Scores.best_good.Given as goal

abbrev pub invariant-loop-place : goal.invariant-loop-place
invariant-loop-place l = IfSome l.best (IsFree l.self.vars l.held)
