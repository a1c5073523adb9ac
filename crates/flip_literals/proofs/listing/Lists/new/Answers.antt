-- The sums of the counts are the ends of the lists, which are then filled.
use Rattle.std.proofs.Common.{◌≡◌, replicate, rules}
use Rattle.flip_literals.proofs.Filled.{filled-start, index_filled}
use Rattle.flip_literals.proofs.listing.Lists.new.Goals as goal

pub fill-requires-clause-filled : goal.fill-requires-clause-filled
fill-requires-clause-filled c =
    let zeros : c.in_ok-places.places.items ≡ replicate c.sum_up-total.result 0 = search rules in
    rw zeros
    (filled-start c.args.formula.now c.args.first.now c.in_ok-starts.starts.items c.sum_up-total.new.counts.items c.sum_up-total.result
    c.in_ok-starts.ensures.counted c.sum_up-total.ensures)

pub returns : goal.returns
returns c =
    index_filled c.args.formula.now c.args.first.now c.fill.new.starts.items c.fill.new.places.items c.fill.ensures.limits c.requires
    c.fill.ensures.filled
