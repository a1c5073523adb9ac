-- One weight more.
use Rattle.local_search.proofs.Weighed.{weighed_more}
use Rattle.local_search.proofs.weights.Weights.new.Goals as goal

pub loop-breaks-preserved : goal.loop-breaks-preserved
loop-breaks-preserved c =
    let all = weighed_more c.loop-breaks.table.items c.loop-breaks.breaks c.weight.result c.loop-breaks.invariant.each
    c.loop-breaks-test.true c.loop-breaks.invariant.weights c.loop-breaks.invariant.limit c.weight.ensures.value c.weight.ensures.limit in
    record { each = all.each; weights = all.weights; limit = all.limit }
