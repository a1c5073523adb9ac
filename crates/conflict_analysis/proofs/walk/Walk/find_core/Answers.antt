use Rattle.std.proofs.Common.{◌∷◌, [], ◌∙◌, sym}
use Rattle.std.proofs.lemmas.Result.{on_ok_weaker}
use Rattle.cnf_core.specs.Literals.{negated}
use Rattle.conflict_analysis.proofs.Marking.{may_mark_core, core_marked}
use Rattle.conflict_analysis.proofs.Cores.{core_of_decision, core_of_unit, core_of_clause, traced_reason}
use Rattle.conflict_analysis.proofs.walk.Walk.find_core.Goals as goal

pub mark_clause-requires : goal.mark_clause-requires
mark_clause-requires c =
    may_mark_core c.args.arena.now c.args.trail.now c.args.lit c.args.self.now c.args.place c.in-Clause.r c.requires.can_trace
    c.requires.begun c.requires.falsified.within c.requires.falsified.lit (sym c.reason_at.ensures ∙ c.in-Clause.is)

pub trace-requires-clause-counted : goal.trace-requires-clause-counted
trace-requires-clause-counted c =
    core_marked c.args.arena.now c.args.trail.now c.args.lit c.args.self.now c.mark_clause.new.self c.args.place c.in-Clause.r
    c.requires.can_trace c.requires.begun c.requires.falsified.within c.requires.falsified.lit
    (sym c.reason_at.ensures ∙ c.in-Clause.is) c.in_ok-mark_clause-in-Clause.ensures.marked

pub returns-in-Decision-clause-core : goal.returns-in-Decision-clause-core
returns-in-Decision-clause-core c =
    on_ok_weaker c.add_literal.result (λ made.
    core_of_decision c.args.arena.now c.args.trail.now c.args.lit c.args.self.now c.add_literal.new.self c.args.place
    c.requires.begun c.requires.falsified.within c.requires.falsified.lit (sym c.reason_at.ensures ∙ c.in-Decision.is) made)
    c.add_literal.ensures.added

pub returns-in-Unit-clause-core : goal.returns-in-Unit-clause-core
returns-in-Unit-clause-core c =
    on_ok_weaker c.add_hint.result (λ made.
    core_of_unit c.args.arena.now c.args.trail.now c.args.lit c.args.self.now c.add_hint.new.self c.args.place c.in-Unit.id
    c.requires.can_trace.reasons c.requires.begun c.requires.falsified.within c.requires.falsified.lit
    (sym c.reason_at.ensures ∙ c.in-Unit.is) made)
    c.add_hint.ensures.added

pub returns-in_ok-mark_clause-in-Clause-clause-core : goal.returns-in_ok-mark_clause-in-Clause-clause-core
returns-in_ok-mark_clause-in-Clause-clause-core c =
    on_ok_weaker c.trace.result (λ traced.
    core_of_clause c.args.arena.now c.args.trail.now c.args.lit c.trace.new.self c.args.place c.requires.can_trace.trail
    c.requires.falsified.within c.requires.falsified.lit
    (traced c.args.trail.now.level (negated c.args.lit ∷ [])
    (traced_reason c.args.arena.now c.args.trail.now c.args.lit c.args.self.now c.mark_clause.new.self c.args.place c.in-Clause.r
    c.requires.can_trace.trail c.requires.can_trace.reasons c.requires.begun c.requires.falsified.within c.requires.falsified.lit
    (sym c.reason_at.ensures ∙ c.in-Clause.is) c.in_ok-mark_clause-in-Clause.ensures.marked)))
    c.trace.ensures.traced
