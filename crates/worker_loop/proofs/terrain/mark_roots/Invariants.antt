use Rattle.std.specs.Prelude.{◌≡◌, length}
use Rattle.worker_loop.proofs.terrain.mark_roots.Given as goal

abbrev pub invariant-loop-place : goal.invariant-loop-place
invariant-loop-place l = length l.fixed ≡ length l.fn.fixed
