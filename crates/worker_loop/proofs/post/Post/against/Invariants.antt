use Rattle.std.proofs.Common.{◌≡◌, map, take}
use Rattle.worker_loop.specs.Steps.Moves.{against_phase}
use Rattle.worker_loop.proofs.post.Post.against.Given as goal

-- the literals of the variables so far
abbrev pub invariant-loop-var : goal.invariant-loop-var
invariant-loop-var l = l.lits.items ≡ map (against_phase l.self.question.now.phases) (take l.var-index l.block)
