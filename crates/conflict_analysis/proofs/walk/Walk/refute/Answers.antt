use Rattle.std.proofs.Common.{◌∙◌, List, ℕ, [], sym, subst}
use Rattle.std.proofs.lemmas.Result.{IfOk-weaker}
use Rattle.conflict_analysis.specs.Members.{IsProof}
use Rattle.conflict_analysis.specs.Steps.Tracing.{IsCounted, IsAllTraced}
use Rattle.conflict_analysis.proofs.Marking.{may_mark_conflict, conflict_counted}
use Rattle.conflict_analysis.proofs.Traces.{traced_conflict, refuted}
use Rattle.conflict_analysis.proofs.walk.Walk.refute.Goals as goal

pub mark_clause-requires : goal.mark_clause-requires
mark_clause-requires c =
    may_mark_conflict c.args.arena.now c.args.trail.now c.start.new.self c.args.conflict c.len-end.ensures.trail
    (c.start.ensures.size ∙ c.requires.size) c.start.ensures.started c.requires.conflict

pub trace-requires-clause-counted : goal.trace-requires-clause-counted
trace-requires-clause-counted c =
    subst (λ (n : ℕ). IsCounted c.args.trail.now.entries n c.mark_clause.new.self) (sym c.len-end.ensures.value)
    (conflict_counted c.args.arena.now c.args.trail.now c.start.new.self c.mark_clause.new.self c.args.conflict
    c.start.ensures.started c.requires.conflict c.in_ok-mark_clause.ensures.marked)

pub returns-clause-proved : goal.returns-clause-proved
returns-clause-proved c =
    let traced = subst (λ (n : ℕ). IsAllTraced c.args.arena.now c.args.trail.now.entries n c.mark_clause.new.self c.trace.new.self)
    c.len-end.ensures.value c.in_ok-trace.ensures.traced in
    IfOk-weaker c.hints_in_order.result _ _ (λ hints is. λ known map.
    subst (λ (hs : List ℕ). IsProof known hs []) (sym is)
    (refuted c.args.arena.now c.args.trail.now c.trace.new.self known c.requires.reasons
    (traced 0 [] (traced_conflict c.args.arena.now c.args.trail.now c.args.conflict c.start.new.self c.mark_clause.new.self
    c.len-end.ensures.trail c.start.ensures.started c.requires.conflict c.in_ok-mark_clause.ensures.marked)) map))
    c.hints_in_order.ensures.hints
