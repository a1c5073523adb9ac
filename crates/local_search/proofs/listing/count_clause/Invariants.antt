-- The counts are those of the literals read so far.
use Rattle.std.proofs.Common.{length}
use Rattle.local_search.specs.Steps.Listed.{IsCounted}
use Rattle.local_search.proofs.listing.count_clause.Given as goal

abbrev pub invariant-loop-lit : goal.invariant-loop-lit
invariant-loop-lit l = IsCounted (length l.fn.counts.items) l.clauses l.place l.lit-index l.counts.items
