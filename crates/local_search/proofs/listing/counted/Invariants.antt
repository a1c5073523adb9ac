-- The counts are those of the clauses read so far.
use Rattle.local_search.specs.Steps.Listed.{IsCounted}
use Rattle.local_search.proofs.listing.counted.Given as goal

abbrev pub invariant-loop-place : goal.invariant-loop-place
invariant-loop-place l = IsCounted l.codes l.clauses l.place 0 l.counts.items
