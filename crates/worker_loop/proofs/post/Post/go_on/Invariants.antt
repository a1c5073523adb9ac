use Rattle.std.specs.Prelude.{◌-◌}
use Rattle.lrat_log.specs.Entries.{learnt_count}
use Rattle.worker_loop.proofs.Slices.{IsSlicing}
use Rattle.worker_loop.proofs.post.Post.go_on.Given as goal

abbrev pub invariant-loop-found : goal.invariant-loop-found
invariant-loop-found g l = IsSlicing l.words l.initial.self l.self l.conflicts

abbrev pub decreases-loop-found : goal.decreases-loop-found
decreases-loop-found g l = l.self.budget - learnt_count l.self.solver.log.entries
