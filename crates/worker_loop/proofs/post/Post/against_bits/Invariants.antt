use Rattle.worker_loop.proofs.Picks.{AgainstBelow}
use Rattle.worker_loop.proofs.post.Post.against_bits.Given as goal

-- the mask has the bits so far to whose variables the model gives the other value
abbrev pub invariant-loop-bit : goal.invariant-loop-bit
invariant-loop-bit l = AgainstBelow l.self.question.now l.model l.group l.among l.bit l.against
