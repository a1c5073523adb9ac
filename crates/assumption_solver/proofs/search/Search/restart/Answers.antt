use Rattle.std.proofs.Common.{arith}
use Rattle.assumption_solver.proofs.Back.{solves_back}
use Rattle.assumption_solver.proofs.Guided.{guided_backtracked}
use Rattle.assumption_solver.proofs.search.Search.restart.Goals as goal

pub returns-then-due-clause-solves : goal.returns-then-due-clause-solves
returns-then-due-clause-solves g c =
    let e = c.go_back.ensures.same in
    solves_back c.args.self.now c.go_back.new.self c.min-level.result c.requires (omega (arith, c.min-level.ensures, c.level.ensures.value))
    c.go_back.ensures.back (record {
      arena = e.arena;
      watches = e.watches;
      analyser = e.analyser;
      settled = e.settled;
      journal = e.journal;
      epochs = e.epochs;
    })

pub returns-then-due-clause-guided : goal.returns-then-due-clause-guided
returns-then-due-clause-guided g c =
    guided_backtracked c.args.self.now.trail c.go_back.new.self.trail c.min-level.result c.go_back.ensures.back
    (omega (arith, c.min-level.ensures, c.level.ensures.value))
