use Rattle.std.proofs.Common.{sym, subst}
use Rattle.trail_core.specs.Trails.{TrailState}
use Rattle.assumption_solver.specs.Steps.Solving.{IsSolving}
use Rattle.assumption_solver.proofs.Solved.{solving_decided}
use Rattle.assumption_solver.proofs.search.Search.decide.Goals as goal

pub returns-clause-solves : goal.returns-clause-solves
returns-clause-solves c =
    let s = c.args.self.now in
    subst (λ (t : TrailState). IsSolving s.analyser s.settled s.arena s.watches t s.journal s.epochs) (sym c.decide.ensures)
    (solving_decided s.analyser s.settled s.arena s.watches s.trail c.args.lit s.journal s.epochs c.requires.solves c.requires.trail
    c.requires.quiet c.requires.units)
