-- Before the index stand the sums, and from it on the counts.
use Rattle.local_search.proofs.Filled.{IsSumming}
use Rattle.local_search.proofs.listing.sum_up.Given as goal

abbrev pub invariant-loop-i : goal.invariant-loop-i
invariant-loop-i l = IsSumming l.initial.counts.items l.counts.items l.i l.total
