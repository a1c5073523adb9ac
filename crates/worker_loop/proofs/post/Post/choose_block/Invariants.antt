use Rattle.worker_loop.specs.Steps.Moves.{IsLooking}
use Rattle.worker_loop.proofs.post.Post.choose_block.Given as goal

abbrev pub invariant-loop-place : goal.invariant-loop-place
invariant-loop-place g l = IsLooking l.fn.self l.self
