use Rattle.std.proofs.Common.{◌≡◌}
use Rattle.worker_loop.proofs.turn.prefer_against.Given as goal

abbrev pub invariant-loop-lit : goal.invariant-loop-lit
invariant-loop-lit l = l.solver ≡ l.fn.solver
