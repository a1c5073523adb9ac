use Rattle.std.proofs.Common.{arith}
use Rattle.watch_lists.proofs.Turns.{stopped, way_arena, way_trail, turned}
use Rattle.watch_lists.proofs.watches.Watches.propagate.Goals as goal

pub returns-in_default : goal.returns-in_default
returns-in_default c =
    let s = stopped c.visit.new.arena c.visit.new.self c.visit.new.trail c.negated-lit.result c.visit.result c.in_default.not-Quiet
    c.visit.ensures.step in record {
      ready = s.0;
      arena = way_arena _ _ _ _ _ _ _ c.loop-trail.invariant c.visit.ensures.advanced;
      trail = way_trail _ _ _ _ _ _ _ c.loop-trail.invariant c.visit.ensures.advanced;
      step = s.1;
    }

pub loop-trail-preserved : goal.loop-trail-preserved
loop-trail-preserved c =
    turned _ _ _ _ _ _ _ _ _ c.gone-in-loop-trail.result c.gone-in-loop-trail-2.result c.lit_at.result c.negated-lit.result
    c.loop-trail.invariant (omega (arith, c.loop-trail-test.true, c.gone.ensures.value, c.len.ensures.value))
    c.gone-in-loop-trail.ensures.value c.lit_at.ensures c.negated-lit.ensures c.in-Quiet.ensures.advanced c.in-Quiet.ensures.step
    c.gone-in-loop-trail-2.ensures.trail c.gone-in-loop-trail-2.ensures.value c.set_gone.ensures
