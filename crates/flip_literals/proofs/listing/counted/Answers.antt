-- The limits of a formula are limits of the sum.
use Rattle.flip_literals.proofs.Filled.{counted_total}
use Rattle.flip_literals.proofs.listing.counted.Goals as goal

pub returns-clause-total : goal.returns-clause-total
returns-clause-total c =
    counted_total c.args.formula.now c.args.first.now c.loop-place.place c.loop-place.counts.items c.vars.ensures.limits
    c.loop-place.invariant
