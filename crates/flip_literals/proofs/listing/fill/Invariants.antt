-- The lists are filled by the clauses read so far.
use Rattle.flip_literals.specs.Steps.Listed.{IsFilled}
use Rattle.flip_literals.proofs.listing.fill.Given as goal

abbrev pub invariant-loop-place : goal.invariant-loop-place
invariant-loop-place l = IsFilled l.formula l.first l.place 0 l.starts.items l.places.items
