use Rattle.std.specs.Prelude.{All, take}
use Rattle.worker_loop.specs.Steps.Moves.{IsClosed}
use Rattle.worker_loop.proofs.Onward.{HasStepped}
use Rattle.worker_loop.proofs.post.Post.are_closed.Given as goal

abbrev pub invariant-loop-lit : goal.invariant-loop-lit
invariant-loop-lit l = HasStepped l.words l.initial.self l.self × All (λ k. IsClosed l.self k.var) (take l.lit-index l.lits)
