use Rattle.std.specs.Prelude.{◌≡◌}
use Rattle.worker_loop.proofs.terrain.prefer_values.Given as goal

abbrev pub invariant-loop-i : goal.invariant-loop-i
invariant-loop-i l = l.solver ≡ l.fn.solver
