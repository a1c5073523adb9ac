use Rattle.std.proofs.Common.{arith}
use Rattle.assumption_solver.proofs.Back.{solves_back}
use Rattle.assumption_solver.proofs.Guided.{guided_root}
use Rattle.assumption_solver.proofs.search.Search.go_on.Goals as goal

pub run-requires-clause-guided : goal.run-requires-clause-guided
run-requires-clause-guided g c =
    let s = c.args.self.now in
    guided_root s.arena s.trail c.requires.solves.bears.searching.reasoned c.level-level.ensures.trail c.requires.root
    c.args.query.now.assume.now c.args.query.now.chunk.now

pub returns-clause-solves : goal.returns-clause-solves
returns-clause-solves g c =
    solves_back c.run.new.self c.go_back.new.self 0 c.in_ok-found.ensures.solves (omega arith) c.go_back.ensures.back c.go_back.ensures.same
