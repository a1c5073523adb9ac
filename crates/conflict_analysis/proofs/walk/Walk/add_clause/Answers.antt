use Rattle.std.proofs.Common.{◌+◌, ◌≤◌, ◌<◌, ◌∙◌, sym, ap, subst, length, get_or, arith}
use Rattle.std.proofs.lemmas.Result.{on_ok_weaker}
use Rattle.cnf_core.specs.Literals.{Literals}
use Rattle.conflict_analysis.specs.Steps.Walks.{WalkView, is_seen}
use Rattle.conflict_analysis.proofs.Growing.{element_is_member}
use Rattle.conflict_analysis.proofs.Walking.{IsAdding, may_take, adding_taken, adding_past, added}
use Rattle.clause_arena.specs.Entries.{entry_at}
use Rattle.conflict_analysis.proofs.walk.Walk.add_clause.Goals as goal
use Rattle.conflict_analysis.proofs.walk.Walk.add_clause.Goals.{then-not-is_seen+in_ok-take, else-not-is_seen}

pub is_seen-requires : goal.is_seen-requires
is_seen-requires c =
    let lt = subst (λ (d : Literals). c.loop-lit.lit-index < length d) c.lits-lit-items.ensures c.loop-lit-test.true in
    let is = c.lit-item.is ∙ ap (λ (d : Literals). get_or d c.loop-lit.lit-index c.lit-item.result) c.lits-lit-items.ensures in
    let low = c.requires.low c.lit-item.result
    (element_is_member (entry_at c.args.arena.now c.args.r).lits c.loop-lit.lit-index c.lit-item.result lt is) in
    omega (arith, low, c.var.ensures.value, c.loop-lit.invariant.size, c.requires.size)

pub take-requires : goal.take-requires
take-requires c =
    may_take c.args.arena.now c.args.trail.now c.args.r c.loop-lit.lit-index c.args.self.now c.loop-lit.self c.lit-item.result
    c.requires c.loop-lit.invariant
    (subst (λ (d : Literals). c.loop-lit.lit-index < length d) c.lits-lit-items.ensures c.loop-lit-test.true)
    (c.lit-item.is ∙ ap (λ (d : Literals). get_or d c.loop-lit.lit-index c.lit-item.result) c.lits-lit-items.ensures)
    (ap (is_seen c.loop-lit.self) (sym c.var.ensures.value) ∙ sym c.is_seen.ensures ∙ c.if-not-is_seen.true)

pub loop-lit-preserved : goal.loop-lit-preserved
loop-lit-preserved c =
    let clause = (entry_at c.args.arena.now c.args.r).lits in
    let lt = subst (λ (d : Literals). c.loop-lit.lit-index < length d) c.lits-lit-items.ensures c.loop-lit-test.true in
    let is = c.lit-item.is ∙ ap (λ (d : Literals). get_or d c.loop-lit.lit-index c.lit-item.result) c.lits-lit-items.ensures in
    let read = ap (is_seen c.loop-lit.self) (sym c.var.ensures.value) ∙ sym c.is_seen.ensures in
    elim c.if-not-is_seen.branch [
      | then-not-is_seen+in_ok-take w ↦
          subst (λ (v : WalkView). IsAdding c.args.trail.now clause (c.loop-lit.lit-index + 1) c.args.self.now v) (sym w.self-is)
          (adding_taken c.args.trail.now clause c.loop-lit.lit-index c.args.self.now c.loop-lit.self w.take.new.self c.lit-item.result
          c.loop-lit.invariant lt is (read ∙ w.if-not-is_seen.true) w.in_ok-take.ensures.taken w.in_ok-take.ensures.size)
      | else-not-is_seen w ↦
          subst (λ (v : WalkView). IsAdding c.args.trail.now clause (c.loop-lit.lit-index + 1) c.args.self.now v) (sym w.self-is)
          (adding_past c.args.trail.now clause c.loop-lit.lit-index c.args.self.now c.loop-lit.self c.lit-item.result
          c.loop-lit.invariant lt is (read ∙ w.if-not-is_seen.false))
    ]

pub returns-clause-added : goal.returns-clause-added
returns-clause-added c =
    on_ok_weaker c.add_hint.result (λ made.
    added c.args.arena.now c.args.trail.now c.args.r c.loop-lit.lit-index c.id.result c.args.self.now c.loop-lit.self
    c.add_hint.new.self c.loop-lit.invariant
    (subst (λ (d : Literals). length d ≤ c.loop-lit.lit-index) c.lits-lit-items.ensures c.loop-lit-test.false)
    c.id.ensures made)
    c.add_hint.ensures.added
