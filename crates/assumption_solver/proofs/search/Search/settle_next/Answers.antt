use Rattle.std.proofs.Common.{refl, sym, ap, ◌∙◌}
use Rattle.cnf_core.specs.Literals.{Literal}
use Rattle.assumption_solver.proofs.Roots.{at_root, unit_at}
use Rattle.assumption_solver.proofs.Tables.{noted_same}
use Rattle.assumption_solver.proofs.Solved.{solving_settled}
use Rattle.assumption_solver.proofs.Settling.{next_is_root, next_is_shown, next_settled, guided_next, grown_next}
use Rattle.assumption_solver.proofs.search.Search.settle_next.Goals as goal

pub unit_hints-requires-clause-root : goal.unit_hints-requires-clause-root
unit_hints-requires-clause-root c =
    let s = c.args.self.now in
    next_is_root s.analyser s.settled s.arena s.watches s.trail s.journal s.epochs c.lit_at-lit.result c.requires.solves c.requires.trail
    c.requires.root c.requires.within c.lit_at-lit.ensures

pub unit-requires : goal.unit-requires
unit-requires c =
    let s = c.args.self.now in
    next_is_shown s.analyser s.settled s.arena s.watches s.trail s.journal s.epochs c.lit_at-lit.result c.in_ok-hints.hints c.as_slice.result.now
    c.requires.solves c.requires.trail c.requires.within c.lit_at-lit.ensures c.in_ok-hints.ensures.proved c.as_slice.ensures

pub root-requires-clause-root : goal.root-requires-clause-root
root-requires-clause-root c = λ k lt same. at_root c.args.self.now.trail c.args.self.now.trail c.requires.trail c.requires.root refl k lt

pub returns-clause-solves : goal.returns-clause-solves
returns-clause-solves c =
    let s = c.args.self.now in
    next_settled s.analyser c.unit_hints.new.self s.settled s.arena s.watches s.trail c.root.new.self s.journal c.unit.new.self s.epochs
    c.lit_at-lit.result c.in_ok-id.id c.requires.solves c.requires.trail c.requires.root c.requires.within c.lit_at-lit.ensures
    c.unit_hints.ensures.same c.in_ok-id.ensures.noted c.in_ok-id.ensures.unit
    (c.root.ensures s.settled c.requires.within (ap (λ (l : Literal). l.var) (sym c.lit_at-lit.ensures) ∙ sym c.var-2.ensures.value))

pub returns-clause-grown : goal.returns-clause-grown
returns-clause-grown c =
    let s = c.args.self.now in
    grown_next s.trail c.root.new.self s.settled c.in_ok-id.id c.requires.within
    (c.root.ensures s.settled c.requires.within (ap (λ (l : Literal). l.var) (sym c.lit_at-lit.ensures) ∙ sym c.var-2.ensures.value))

pub returns-clause-guided : goal.returns-clause-guided
returns-clause-guided c =
    let s = c.args.self.now in
    guided_next s.trail c.root.new.self s.settled c.in_ok-id.id c.requires.within
    (c.root.ensures s.settled c.requires.within (ap (λ (l : Literal). l.var) (sym c.lit_at-lit.ensures) ∙ sym c.var-2.ensures.value))

pub returns-in_default : goal.returns-in_default
returns-in_default c =
    let s = c.args.self.now in record {
      solves = solving_settled s.analyser s.settled s.arena s.watches s.trail s.journal s.epochs c.requires.solves c.requires.within
          (unit_at s.arena s.trail s.settled c.var.result c.lit_at-lit.result c.reason_of.result c.requires.solves.bears.searching.reasoned
          c.requires.trail c.requires.root c.requires.within c.lit_at-lit.ensures c.var.ensures.value c.reason_of.ensures
          c.in_default.not-Clause);
      trail = c.requires.trail;
      settled = refl;
      gone = refl;
      count = refl;
      grown = record { literals = λ l h. h; roots = λ l h. h };
      level = refl;
      vars = refl;
      epochs = refl;
      guided = λ assume chunk h. h;
      noted = noted_same s.journal;
    }
