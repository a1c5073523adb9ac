use Rattle.std.specs.Prelude.{◌-◌}
use Rattle.worker_loop.specs.Steps.Moves.{IsLoaded}
use Rattle.worker_loop.proofs.Onward.{HasStepped}
use Rattle.worker_loop.proofs.post.Post.harvest.Given as goal

abbrev pub invariant-loop-self : goal.invariant-loop-self
invariant-loop-self l = HasStepped l.words l.initial.self l.self × IsLoaded l.self

abbrev pub decreases-loop-self : goal.decreases-loop-self
decreases-loop-self l = l.self.solver.roots - l.self.harvested
