-- Before the index stand the sums, and from it on the counts.
use Rattle.flip_literals.proofs.Filled.{IsSumming}
use Rattle.flip_literals.proofs.listing.sum_up.Given as goal

abbrev pub invariant-loop-i : goal.invariant-loop-i
invariant-loop-i l = IsSumming l.initial.counts.items l.counts.items l.i l.total
