use Rattle.assumption_solver.proofs.Solved.{solving_propagated}
use Rattle.assumption_solver.proofs.Guided.{guided_propagated}
use Rattle.assumption_solver.proofs.search.Search.propagate.Goals as goal

pub returns-clause-solves : goal.returns-clause-solves
returns-clause-solves c =
    let s = c.args.self.now in
    let p = c.propagate-step in
    solving_propagated s.analyser s.settled s.arena p.new.arena s.watches p.new.self s.trail p.new.trail s.journal s.epochs
    c.requires p.ensures.ready p.ensures.arena p.ensures.trail

pub returns-clause-guided : goal.returns-clause-guided
returns-clause-guided c = guided_propagated c.propagate-step.new.arena c.args.self.now.trail c.propagate-step.new.trail c.propagate-step.ensures.trail
