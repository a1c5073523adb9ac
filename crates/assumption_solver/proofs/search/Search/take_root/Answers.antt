use Rattle.std.proofs.Common.{sym, subst}
use Rattle.trail_core.specs.Trails.{TrailState}
use Rattle.assumption_solver.specs.Steps.Solving.{IsSolving}
use Rattle.assumption_solver.proofs.Solved.{solving_unit}
use Rattle.assumption_solver.proofs.search.Search.take_root.Goals as goal

pub returns-clause-solves : goal.returns-clause-solves
returns-clause-solves c =
    let s = c.args.self.now in
    subst (λ (t : TrailState). IsSolving s.analyser s.settled s.arena s.watches t s.journal s.epochs) (sym c.push.ensures)
    (solving_unit s.analyser s.settled s.arena s.watches s.trail c.args.lit c.args.id s.journal s.epochs c.requires.solves c.requires.root
    c.requires.unit)
