-- The lists are filled by the clauses read so far.
use Rattle.std.proofs.Common.{length}
use Rattle.local_search.specs.Steps.Listed.{IsFilled}
use Rattle.local_search.proofs.listing.fill.Given as goal

abbrev pub invariant-loop-place : goal.invariant-loop-place
invariant-loop-place l = IsFilled (length l.fn.starts.items) l.clauses l.place 0 l.starts.items l.places.items
