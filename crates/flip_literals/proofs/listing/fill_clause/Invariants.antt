-- The lists are filled by the literals read so far.
use Rattle.flip_literals.specs.Steps.Listed.{IsFilled}
use Rattle.flip_literals.proofs.listing.fill_clause.Given as goal

abbrev pub invariant-loop-lit : goal.invariant-loop-lit
invariant-loop-lit l = IsFilled l.formula l.first l.place l.lit-index l.starts.items l.places.items
