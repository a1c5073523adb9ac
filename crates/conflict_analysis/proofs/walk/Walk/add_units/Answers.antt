use Rattle.std.proofs.Common.{◌≡◌, ◌+◌, ◌<◌, ◌≤◌, ◌∙◌, refl, sym, ap, subst, length, get_or}
use Rattle.cnf_core.specs.Literals.{Literals}
use Rattle.clause_arena.specs.Entries.{entry_at}
use Rattle.trail_core.proofs.Literals.{same_unless, other_unless}
use Rattle.conflict_analysis.specs.Steps.Walks.{WalkView}
use Rattle.conflict_analysis.proofs.Growing.{element_is_member}
use Rattle.conflict_analysis.proofs.Units.{ResolvesFront, front_none, front_own, front_more, front_all}
use Rattle.conflict_analysis.proofs.walk.Walk.add_units.Goals as goal
use Rattle.conflict_analysis.proofs.walk.Walk.add_units.Goals.{then-ne+in_ok-add_hint, else-ne}

pub loop-lit-init : goal.loop-lit-init
loop-lit-init c = record {
  size = refl;
  resolved = front_none c.args.trail.now (entry_at c.args.arena.now c.args.r).lits c.args.own c.args.self.now.hints c.requires.own;
}

pub loop-lit-preserved : goal.loop-lit-preserved
loop-lit-preserved c =
    let clause = (entry_at c.args.arena.now c.args.r).lits in
    let i = c.loop-lit.lit-index in
    let x = c.lit-item.result in
    let was = c.loop-lit.invariant in
    let lt = subst (λ (d : Literals). i < length d) c.lits-lit-items.ensures c.loop-lit-test.true in
    let is = c.lit-item.is ∙ ap (λ (d : Literals). get_or d i x) c.lits-lit-items.ensures in
    elim c.if-ne.branch [
      | then-ne+in_ok-add_hint w ↦ (let other = other_unless x c.args.own c.ne.result c.ne.ensures w.if-ne.true in record {
        size = ap (λ (v : WalkView). length v.stamps) w.self-is ∙ w.in_ok-add_hint.ensures.size ∙ was.size;
        resolved = front_more c.args.trail.now clause c.args.own i x w.unit_id.result c.args.self.now.hints c.loop-lit.self.hints
            c.if-ne.self.hints c.requires.trail lt is other
            (c.requires.units x (element_is_member clause i x lt is) other) w.unit_id.ensures
            (ap (λ (v : WalkView). v.hints) (w.self-is ∙ w.in_ok-add_hint.ensures.added)) was.resolved;
      })
      | else-ne w ↦
          subst (λ (v : WalkView). record {
            size : length v.stamps ≡ length c.args.self.now.stamps;
            resolved : ResolvesFront c.args.trail.now clause c.args.own (i + 1) c.args.self.now.hints v.hints;
          }) (sym w.self-is) (record {
            size = was.size;
            resolved = front_own c.args.trail.now clause c.args.own i x c.args.self.now.hints c.loop-lit.self.hints lt is
                (same_unless x c.args.own c.ne.result c.ne.ensures w.if-ne.false) was.resolved;
          })
    ]

pub returns-clause-resolved : goal.returns-clause-resolved
returns-clause-resolved c =
    front_all c.args.trail.now (entry_at c.args.arena.now c.args.r).lits c.args.own c.loop-lit.lit-index c.args.self.now.hints
    c.loop-lit.self.hints (subst (λ (d : Literals). length d ≤ c.loop-lit.lit-index) c.lits-lit-items.ensures c.loop-lit-test.false)
    c.loop-lit.invariant.resolved
