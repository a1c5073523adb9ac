use Rattle.std.proofs.Common.{ap}
use Rattle.assumption_solver.specs.SolverStates.{SolverState}
use Rattle.worker_loop.proofs.Onward.{onward_trans}
use Rattle.worker_loop.proofs.Slices.{post_queried, onward_queried, asked_by}
use Rattle.worker_loop.proofs.post.Post.ask.Goals as goal

pub go_on-asked-requires-clause-post : goal.go_on-asked-requires-clause-post
go_on-asked-requires-clause-post g c =
    post_queried c.args.self.now c.begin.new.self c.requires.post c.begin.ensures.log c.begin.ensures.count

pub returns-clause-onward : goal.returns-clause-onward
returns-clause-onward g c =
    onward_trans c.args.self.now (record c.args.self.now { solver = c.begin.new.self }) c.harvest.new.self
    (onward_queried c.args.self.now c.begin.new.self c.begin.ensures.log)
    (onward_trans (record c.args.self.now { solver = c.begin.new.self }) c.go_on-asked.new.self c.harvest.new.self
    c.go_on-asked.ensures.onward c.harvest.ensures.onward)

pub returns-clause-asked : goal.returns-clause-asked
returns-clause-asked g c =
    asked_by c.args.self.now.solver.log c.begin.new.self.log c.go_on-asked.new.self.solver.log c.harvest.new.self.solver.log
    c.begin.ensures.log c.go_on-asked.ensures.log (ap (λ (s : SolverState). s.log) c.harvest.ensures.solver)
