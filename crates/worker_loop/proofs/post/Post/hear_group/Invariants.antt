use Rattle.worker_loop.proofs.Heard.{HasHeardBelow}
use Rattle.worker_loop.proofs.post.Post.hear_group.Given as goal

-- the bits so far
abbrev pub invariant-loop-bit : goal.invariant-loop-bit
invariant-loop-bit l = HasHeardBelow l.words l.fn.self l.self l.group l.fixed l.bit
