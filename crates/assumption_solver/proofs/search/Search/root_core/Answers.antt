use Rattle.std.proofs.Common.{refl, sym, subst}
use Rattle.cnf_core.specs.Literals.{Literals}
use Rattle.assumption_solver.specs.Answers.{IsCoreFor}
use Rattle.assumption_solver.proofs.Back.{solving_again}
use Rattle.assumption_solver.proofs.Refuting.{root_has_unit, root_core_shown, root_core_for}
use Rattle.assumption_solver.proofs.search.Search.root_core.Goals as goal

pub unreachable-requires : goal.unreachable-requires
unreachable-requires c =
    let s = c.args.self.now in
    c.in_default.ensures.none
    (root_has_unit s.analyser s.settled s.arena s.watches s.trail s.journal s.epochs c.args.query.now.assume.now c.args.lit
    c.negated-fixed.result c.requires.solves c.requires.units c.requires.refuted c.negated-fixed.ensures)

pub unit-requires : goal.unit-requires
unit-requires c =
    root_core_shown c.args.self.now.journal c.args.query.now.assume.now c.args.self.now.trail c.in-Some.id c.args.lit c.negated-fixed.result
    c.requires.within c.requires.refuted c.negated-fixed.ensures c.in-Some.ensures.some

pub returns-clause-solves : goal.returns-clause-solves
returns-clause-solves c =
    let s = c.args.self.now in
    solving_again s.analyser s.analyser s.settled s.arena s.watches s.trail s.journal c.unit.new.self s.epochs c.requires.solves refl
    c.unit.ensures.noted

pub returns-clause-found : goal.returns-clause-found
returns-clause-found c = λ budget.
    subst (λ (d : Literals). IsCoreFor c.unit.new.self c.args.query.now.assume.now d c.in_ok-entry.entry) (sym c.in_ok-lits.ensures.items)
    (root_core_for c.unit.new.self c.in_ok-entry.entry c.args.query.now.assume.now c.args.self.now.trail c.args.lit c.negated-fixed.result
    c.requires.refuted c.negated-fixed.ensures c.in_ok-entry.ensures.unit)
