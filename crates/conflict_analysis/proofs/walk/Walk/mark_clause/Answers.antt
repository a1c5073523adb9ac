use Rattle.std.proofs.Common.{◌+◌, ◌≤◌, ◌<◌, ◌∙◌, sym, ap, subst, length, get_or, arith}
use Rattle.std.proofs.lemmas.Result.{on_ok_weaker}
use Rattle.cnf_core.specs.Literals.{Literals}
use Rattle.clause_arena.specs.Entries.{entry_at}
use Rattle.conflict_analysis.specs.Steps.Walks.{WalkView, is_seen}
use Rattle.conflict_analysis.proofs.Growing.{element_is_member}
use Rattle.conflict_analysis.proofs.Marking.{IsMarking, marking_met, marking_past, all_marked, room_to_meet}
use Rattle.conflict_analysis.proofs.walk.Walk.mark_clause.Goals as goal
use Rattle.conflict_analysis.proofs.walk.Walk.mark_clause.Goals.{then-not-is_seen, else-not-is_seen}

pub is_seen-requires : goal.is_seen-requires
is_seen-requires c =
    let lt = subst (λ (d : Literals). c.loop-lit.lit-index < length d) c.lits-lit-items.ensures c.loop-lit-test.true in
    let is = c.lit-item.is ∙ ap (λ (d : Literals). get_or d c.loop-lit.lit-index c.lit-item.result) c.lits-lit-items.ensures in
    let low = c.requires.low c.lit-item.result
    (element_is_member (entry_at c.args.arena.now c.args.r).lits c.loop-lit.lit-index c.lit-item.result lt is) in
    omega (arith, low, c.var.ensures.value, c.loop-lit.invariant.size)

pub meet-requires-clause-within : goal.meet-requires-clause-within
meet-requires-clause-within c =
    let lt = subst (λ (d : Literals). c.loop-lit.lit-index < length d) c.lits-lit-items.ensures c.loop-lit-test.true in
    let is = c.lit-item.is ∙ ap (λ (d : Literals). get_or d c.loop-lit.lit-index c.lit-item.result) c.lits-lit-items.ensures in
    let low = c.requires.low c.lit-item.result
    (element_is_member (entry_at c.args.arena.now c.args.r).lits c.loop-lit.lit-index c.lit-item.result lt is) in
    omega (arith, low, c.var-then-not-is_seen.ensures.value, c.loop-lit.invariant.size)

pub meet-requires-clause-room : goal.meet-requires-clause-room
meet-requires-clause-room c =
    room_to_meet c.args.arena.now c.args.trail.now c.args.r c.loop-lit.lit-index c.args.self.now c.loop-lit.self c.requires
    c.loop-lit.invariant

pub loop-lit-preserved : goal.loop-lit-preserved
loop-lit-preserved c =
    let clause = (entry_at c.args.arena.now c.args.r).lits in
    let lt = subst (λ (d : Literals). c.loop-lit.lit-index < length d) c.lits-lit-items.ensures c.loop-lit-test.true in
    let is = c.lit-item.is ∙ ap (λ (d : Literals). get_or d c.loop-lit.lit-index c.lit-item.result) c.lits-lit-items.ensures in
    let low = c.requires.low c.lit-item.result (element_is_member clause c.loop-lit.lit-index c.lit-item.result lt is) in
    let read = ap (is_seen c.loop-lit.self) (sym c.var.ensures.value) ∙ sym c.is_seen.ensures in
    elim c.if-not-is_seen.branch [
      | then-not-is_seen w ↦
          subst (λ (v : WalkView). IsMarking c.args.trail.now clause (c.loop-lit.lit-index + 1) c.args.self.now v) (sym w.self-is)
          (marking_met c.args.trail.now clause c.loop-lit.lit-index c.args.self.now c.loop-lit.self w.meet.new.self c.lit-item.result
          w.var-then-not-is_seen.result c.requires.trail c.loop-lit.invariant lt is w.var-then-not-is_seen.ensures.value
          (omega (arith, low, w.var-then-not-is_seen.ensures.value, c.loop-lit.invariant.size)) (read ∙ w.if-not-is_seen.true)
          w.meet.ensures)
      | else-not-is_seen w ↦
          subst (λ (v : WalkView). IsMarking c.args.trail.now clause (c.loop-lit.lit-index + 1) c.args.self.now v) (sym w.self-is)
          (marking_past c.args.trail.now clause c.loop-lit.lit-index c.args.self.now c.loop-lit.self c.lit-item.result
          c.loop-lit.invariant lt is (read ∙ w.if-not-is_seen.false))
    ]

pub returns-clause-marked : goal.returns-clause-marked
returns-clause-marked c =
    on_ok_weaker c.add_hint.result (λ made.
    all_marked c.args.arena.now c.args.trail.now c.args.r c.loop-lit.lit-index c.id.result c.args.self.now c.loop-lit.self
    c.add_hint.new.self c.loop-lit.invariant
    (subst (λ (d : Literals). length d ≤ c.loop-lit.lit-index) c.lits-lit-items.ensures c.loop-lit-test.false)
    c.id.ensures made)
    c.add_hint.ensures.added
