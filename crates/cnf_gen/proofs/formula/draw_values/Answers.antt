use Rattle.cnf_gen.proofs.Values.{values_none, values_more}
use Rattle.cnf_gen.proofs.formula.draw_values.Goals as goal

pub loop-init : goal.loop-init
loop-init c = rw c.in_ok-values.ensures.items (values_none c.args.rng.now)

pub loop-preserved : goal.loop-preserved
loop-preserved c =
    values_more c.loop.counter c.args.rng.now c.loop.rng c.draw.new.rng c.loop.values.items c.push.new.self.items
    c.draw.result c.is_odd.result c.loop.invariant c.draw.ensures.word c.is_odd.ensures c.in_ok-push.ensures.items c.draw.ensures.rest
