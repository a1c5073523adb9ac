-- The lists are filled by the literals read so far.
use Rattle.std.proofs.Common.{length}
use Rattle.local_search.specs.Steps.Listed.{IsFilled}
use Rattle.local_search.proofs.listing.fill_clause.Given as goal

abbrev pub invariant-loop-lit : goal.invariant-loop-lit
invariant-loop-lit l = IsFilled (length l.fn.starts.items) l.clauses l.place l.lit-index l.starts.items l.places.items
