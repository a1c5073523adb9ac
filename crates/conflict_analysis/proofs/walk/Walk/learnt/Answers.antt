use Rattle.std.proofs.Common.{List, ℕ, length, reverse, Contains, sym, ap, ◌∙◌, subst}
use Rattle.cnf_core.specs.Literals.{Literals}
use Rattle.conflict_analysis.specs.Answers.{IsHighest}
use Rattle.conflict_analysis.specs.Steps.Walks.{WalkView}
use Rattle.conflict_analysis.specs.Steps.Resolvents.{Derives}
use Rattle.conflict_analysis.specs.Steps.Learning.{ResolvesRoots, CanLearn, IsDerived}
use Rattle.conflict_analysis.proofs.walk.Walk.learnt.Goals as goal

pub push_units-requires-clause-units : goal.push_units-requires-clause-units
push_units-requires-clause-units c = λ x there.
    (let can = subst (λ (w : WalkView). CanLearn c.args.trail.now c.args.first w) (sym c.self.view_is) c.requires in
    can.units x (subst (λ (d : Literals). Contains d x) c.deref.ensures.value there))

pub highest_level-back-requires-clause-falsified : goal.highest_level-back-requires-clause-falsified
highest_level-back-requires-clause-falsified c = λ x there.
    (let can = subst (λ (w : WalkView). CanLearn c.args.trail.now c.args.first w) (sym c.self.view_is) c.requires in
    can.gathered x (subst (λ (d : Literals). Contains d x) c.deref-2.ensures.value there))

pub returns-clause-learnt : goal.returns-clause-learnt
returns-clause-learnt c =
    let es = c.args.trail.now.entries in
    let resolved = subst (λ (d : Literals). ResolvesRoots es d c.self.inside.hints.items c.push_units.new.hints.items)
    c.deref.ensures.value c.in_ok-push_units.ensures in
    let hints = c.in_ok-hints_in_order.ensures.hints ∙ ap (λ (w : WalkView). reverse w.hints) c.in_ok-clause.ensures.same in
    subst (λ (w : WalkView).
    IsDerived c.args.trail.now c.args.first w c.in_ok-clause.field-0 c.highest_level-back.result c.in_ok-hints_in_order.field-0)
    c.self.view_is
    (record {
      clause = c.in_ok-clause.ensures.clause;
      highest = subst (λ (d : Literals). IsHighest es d c.highest_level-back.result) c.deref-2.ensures.value c.highest_level-back.ensures;
      derives = λ a known own map d.
          subst (λ (hs : List ℕ). Derives known es (length es) (Contains own) hs) (sym hints)
          (resolved a known own map d);
    })
