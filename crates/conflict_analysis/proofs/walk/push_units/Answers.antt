use Rattle.std.proofs.Common.{length, arith}
use Rattle.conflict_analysis.proofs.Growing.{element_is_member}
use Rattle.conflict_analysis.proofs.Roots.{root_resolved, roots_resolved}
use Rattle.conflict_analysis.proofs.walk.push_units.Goals as goal

pub loop-lit-preserved : goal.loop-lit-preserved
loop-lit-preserved c = λ a known own map d.
    let f = c.requires.units c.lit-item.result
    (element_is_member c.args.roots.now c.loop-lit.lit-index c.lit-item.result c.loop-lit-test.true c.lit-item.is) in
    root_resolved a c.args.trail.now known (length c.args.trail.now.entries) own c.args.roots.now c.loop-lit.lit-index
    c.lit-item.result c.unit_id.result c.loop-lit.hints.items c.push.new.self.items c.requires.trail (omega arith)
    c.loop-lit-test.true c.lit-item.is f f.within
    c.unit_id.ensures c.in_ok-push.ensures.items map (c.loop-lit.invariant a known own map d)

pub returns : goal.returns
returns c = λ a known own map d.
    roots_resolved c.args.trail.now known (length c.args.trail.now.entries) own c.args.roots.now c.loop-lit.lit-index _
    c.loop-lit-test.false
    (c.loop-lit.invariant a known own map d)
