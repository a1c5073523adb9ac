use Rattle.std.proofs.Common.{◌-◌, length}
use Rattle.assumption_solver.specs.Steps.Queries.{IsSwept}
use Rattle.assumption_solver.proofs.search.Search.next_assumption.Given as goal

abbrev pub invariant-loop-sweep : goal.invariant-loop-sweep
invariant-loop-sweep l = IsSwept l.query.assume.now l.self.trail l.sweep

abbrev pub decreases-loop-sweep : goal.decreases-loop-sweep
decreases-loop-sweep l = length l.query.assume.now - l.sweep.passed
