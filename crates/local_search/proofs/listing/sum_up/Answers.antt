-- A sum so far is at most the whole one.
use Rattle.std.proofs.Common.{arith}
use Rattle.local_search.proofs.Filled.{summing-fits, summing-more}
use Rattle.local_search.proofs.listing.sum_up.Goals as goal

pub overflow_add-total : goal.overflow_add-total
overflow_add-total c =
    let all = summing-fits c.args.counts.now.items c.loop-i.counts.items c.loop-i.i c.loop-i.total c.index.result.now
    c.loop-i.invariant (omega arith) c.index.ensures in
    omega arith

pub loop-i-preserved : goal.loop-i-preserved
loop-i-preserved c =
    summing-more c.args.counts.now.items c.loop-i.counts.items c.loop-i.i c.loop-i.total c.index.result.now
    c.loop-i.invariant (omega arith) c.index.ensures
