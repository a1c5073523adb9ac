use Rattle.std.proofs.Common.{◌∙◌, sym, ap}
use Rattle.std.proofs.lemmas.Result.{on_ok_weaker}
use Rattle.conflict_analysis.specs.Steps.Walks.{WalkView}
use Rattle.conflict_analysis.proofs.Units.{others_by_units, own_member, not_decided, shown_by_unit, shown_by_clause}
use Rattle.conflict_analysis.proofs.walk.Walk.find_unit.Goals as goal

pub unreachable-requires : goal.unreachable-requires
unreachable-requires c =
    not_decided c.args.arena.now c.args.trail.now c.args.lit c.args.place c.requires.can_show
    (sym c.reason_at.ensures ∙ c.in-Decision.is)

pub returns-in-Unit-clause-proved : goal.returns-in-Unit-clause-proved
returns-in-Unit-clause-proved c =
    on_ok_weaker c.add_hint.result (λ made.
    shown_by_unit c.args.arena.now c.args.trail.now c.args.lit c.args.place c.in-Unit.id c.args.self.now.hints c.add_hint.new.self.hints
    c.requires.can_show (sym c.reason_at.ensures ∙ c.in-Unit.is) c.requires.no_hints (ap (λ (w : WalkView). w.hints) made))
    c.add_hint.ensures.added

pub id-requires : goal.id-requires
id-requires c =
    let can = c.requires.can_show in
    (can.reasons.clauses c.args.place c.in-Clause.r can.within (sym c.reason_at.ensures ∙ c.in-Clause.is)).live

pub add_units-requires-clause-live : goal.add_units-requires-clause-live
add_units-requires-clause-live c =
    let can = c.requires.can_show in
    (can.reasons.clauses c.args.place c.in-Clause.r can.within (sym c.reason_at.ensures ∙ c.in-Clause.is)).live

pub add_units-requires-clause-own : goal.add_units-requires-clause-own
add_units-requires-clause-own c =
    own_member c.args.arena.now c.args.trail.now c.args.lit c.args.place c.in-Clause.r c.requires.can_show
    (sym c.reason_at.ensures ∙ c.in-Clause.is)

pub add_units-requires-clause-units : goal.add_units-requires-clause-units
add_units-requires-clause-units c =
    others_by_units c.args.arena.now c.args.trail.now c.args.lit c.args.place c.in-Clause.r c.requires.can_show
    (sym c.reason_at.ensures ∙ c.in-Clause.is)

pub returns-in_ok-add_hint-in-Clause-clause-proved : goal.returns-in_ok-add_hint-in-Clause-clause-proved
returns-in_ok-add_hint-in-Clause-clause-proved c =
    on_ok_weaker c.add_units.result (λ resolved.
    shown_by_clause c.args.arena.now c.args.trail.now c.args.lit c.args.place c.in-Clause.r c.id.result c.args.self.now.hints
    c.add_hint-in-Clause.new.self.hints c.add_units.new.self.hints c.requires.can_show (sym c.reason_at.ensures ∙ c.in-Clause.is)
    c.requires.no_hints c.id.ensures (ap (λ (w : WalkView). w.hints) c.in_ok-add_hint-in-Clause.ensures.added) resolved)
    c.add_units.ensures.resolved
