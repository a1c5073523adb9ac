use Rattle.std.specs.Prelude.{◌≡◌, IfSome}
use Rattle.worker_loop.specs.Steps.Jumps.{IsLanding}
use Rattle.worker_loop.proofs.jumping.Jumper.jump.Given as goal

abbrev pub invariant-loop-attempt : goal.invariant-loop-attempt
invariant-loop-attempt l = (l.self ≡ l.fn.self) × (l.solver ≡ l.fn.solver) × IfSome l.found (IsLanding l.fn.self l.wanted l.core)
