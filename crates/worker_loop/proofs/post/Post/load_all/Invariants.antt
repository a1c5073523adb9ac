use Rattle.worker_loop.proofs.Loads.{HasLoadedUpTo}
use Rattle.worker_loop.proofs.post.Post.load_all.Given as goal

-- the groups so far
abbrev pub invariant-loop-group : goal.invariant-loop-group
invariant-loop-group l = HasLoadedUpTo l.words l.fn.self l.self l.group
