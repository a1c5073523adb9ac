use Rattle.merge_bench.proofs.Grown.{core_more, whole_with_unit}
use Rattle.merge_bench.proofs.logs.drawn_log.Goals as goal

pub loop-k-preserved : goal.loop-k-preserved
loop-k-preserved c =
    core_more c.args.formula.now c.loop-k.k c.loop-k.log c.core.new.self c.deref.result.now c.deref-in-loop-k.result.now c.loop-k.invariant
    c.in_ok-core.ensures.ok

pub returns : goal.returns
returns c =
    whole_with_unit c.args.formula.now c.loop-k.k c.loop-k.log c.unit.new.self c.new.result c.deref-2.result.now c.loop-k.invariant
    c.new.ensures c.in_ok-unit.ensures.ok
