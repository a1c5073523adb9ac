use Rattle.worker_loop.proofs.Picks.{FreeBelow}
use Rattle.worker_loop.proofs.post.Post.free_bits.Given as goal

-- the mask has the bits so far whose flips are models
abbrev pub invariant-loop-bit : goal.invariant-loop-bit
invariant-loop-bit l = FreeBelow l.self.question.now.formula l.model l.group l.kept l.bit l.free
