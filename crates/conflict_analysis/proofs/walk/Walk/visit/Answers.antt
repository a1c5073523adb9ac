use Rattle.std.proofs.Common.{◌+◌, ◌∙◌, sym, ap, arith}
use Rattle.std.proofs.lemmas.Result.{on_ok_weaker}
use Rattle.cnf_core.specs.Literals.{negated}
use Rattle.conflict_analysis.specs.Steps.Walks.{is_seen}
use Rattle.conflict_analysis.specs.Steps.Tracing.{is_met}
use Rattle.conflict_analysis.proofs.Counts.{count_open}
use Rattle.conflict_analysis.proofs.Marking.{may_mark_reason}
use Rattle.conflict_analysis.proofs.Traces.{visited_as_decision, visited_as_unit, visited_as_clause}
use Rattle.conflict_analysis.proofs.walk.Walk.visit.Goals as goal

pub count_down-requires : goal.count_down-requires
count_down-requires c =
    omega (
      arith,
      c.requires.counted,
      count_open (is_met c.args.trail.now.entries (is_seen c.args.self.now)) c.args.place c.requires.met,
    )

pub mark_clause-requires : goal.mark_clause-requires
mark_clause-requires c =
    may_mark_reason c.args.arena.now c.args.trail.now c.args.self.now c.count_down.new.self c.args.place c.in-Clause.r c.requires
    c.count_down.ensures (sym c.reason_at.ensures ∙ c.in-Clause.is)

pub returns-in-Decision-clause-visited : goal.returns-in-Decision-clause-visited
returns-in-Decision-clause-visited c =
    on_ok_weaker c.add_literal.result (λ made. (
    visited_as_decision c.args.arena.now c.args.trail.now c.args.place c.args.self.now c.count_down.new.self c.add_literal.new.self
    c.negated.result c.requires c.count_down.ensures (sym c.reason_at.ensures ∙ c.in-Decision.is)
    (c.negated.ensures ∙ ap negated c.lit_at.ensures) made).0)
    c.add_literal.ensures.added

pub returns-in-Decision-clause-counted : goal.returns-in-Decision-clause-counted
returns-in-Decision-clause-counted c =
    on_ok_weaker c.add_literal.result (λ made. (
    visited_as_decision c.args.arena.now c.args.trail.now c.args.place c.args.self.now c.count_down.new.self c.add_literal.new.self
    c.negated.result c.requires c.count_down.ensures (sym c.reason_at.ensures ∙ c.in-Decision.is)
    (c.negated.ensures ∙ ap negated c.lit_at.ensures) made).1)
    c.add_literal.ensures.added

pub returns-in-Unit-clause-visited : goal.returns-in-Unit-clause-visited
returns-in-Unit-clause-visited c =
    on_ok_weaker c.add_hint.result (λ made. (
    visited_as_unit c.args.arena.now c.args.trail.now c.args.place c.in-Unit.id c.args.self.now c.count_down.new.self
    c.add_hint.new.self c.requires c.count_down.ensures (sym c.reason_at.ensures ∙ c.in-Unit.is) made).0)
    c.add_hint.ensures.added

pub returns-in-Unit-clause-counted : goal.returns-in-Unit-clause-counted
returns-in-Unit-clause-counted c =
    on_ok_weaker c.add_hint.result (λ made. (
    visited_as_unit c.args.arena.now c.args.trail.now c.args.place c.in-Unit.id c.args.self.now c.count_down.new.self
    c.add_hint.new.self c.requires c.count_down.ensures (sym c.reason_at.ensures ∙ c.in-Unit.is) made).1)
    c.add_hint.ensures.added

pub returns-in-Clause-clause-visited : goal.returns-in-Clause-clause-visited
returns-in-Clause-clause-visited c =
    on_ok_weaker c.mark_clause.result (λ marks. (
    visited_as_clause c.args.arena.now c.args.trail.now c.args.place c.in-Clause.r c.args.self.now c.count_down.new.self
    c.mark_clause.new.self c.requires c.count_down.ensures (sym c.reason_at.ensures ∙ c.in-Clause.is) marks).0)
    c.mark_clause.ensures.marked

pub returns-in-Clause-clause-counted : goal.returns-in-Clause-clause-counted
returns-in-Clause-clause-counted c =
    on_ok_weaker c.mark_clause.result (λ marks. (
    visited_as_clause c.args.arena.now c.args.trail.now c.args.place c.in-Clause.r c.args.self.now c.count_down.new.self
    c.mark_clause.new.self c.requires c.count_down.ensures (sym c.reason_at.ensures ∙ c.in-Clause.is) marks).1)
    c.mark_clause.ensures.marked
