-- What was found may be flipped.
use Rattle.std.proofs.Common.{length, IfSome}
use Rattle.local_search.specs.Steps.States.{IsFree}
use Rattle.local_search.proofs.search.LocalSearch.least.Given as goal

abbrev pub invariant-loop-lit : goal.invariant-loop-lit
invariant-loop-lit l = IfSome l.found (IsFree (length l.self.held) l.self.held)
