use Rattle.std.proofs.Common.{◌∙◌, sym}
use Rattle.std.proofs.lemmas.Result.{on_ok_weaker}
use Rattle.conflict_analysis.proofs.Walking.{may_add_reason, reason_is_clause, walked_on}
use Rattle.conflict_analysis.proofs.walk.Walk.resolve.Goals as goal

pub add_clause-requires : goal.add_clause-requires
add_clause-requires c =
    may_add_reason c.args.arena.now c.args.trail.now c.args.self.now c.count_down.new.self c.args.place c.in-Clause.r
    c.requires c.count_down.ensures (sym c.reason_at.ensures ∙ c.in-Clause.is)

pub unreachable-requires : goal.unreachable-requires
unreachable-requires c =
    reason_is_clause c.args.arena.now c.args.trail.now c.args.self.now c.args.place c.requires
    (λ r is. c.in_default.not-Clause r (c.reason_at.ensures ∙ is))

pub returns-clause-walked : goal.returns-clause-walked
returns-clause-walked c =
    on_ok_weaker c.add_clause.result (λ added.
    walked_on c.args.arena.now c.args.trail.now c.args.self.now c.count_down.new.self c.add_clause.new.self c.args.place c.in-Clause.r
    c.requires c.count_down.ensures (sym c.reason_at.ensures ∙ c.in-Clause.is) added)
    c.add_clause.ensures.added
