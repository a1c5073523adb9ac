use Rattle.worker_loop.proofs.Heard.{HasHeardUpTo}
use Rattle.worker_loop.proofs.post.Post.hear.Given as goal

-- the groups so far
abbrev pub invariant-loop-group : goal.invariant-loop-group
invariant-loop-group l = HasHeardUpTo l.words l.fn.self l.self l.group
