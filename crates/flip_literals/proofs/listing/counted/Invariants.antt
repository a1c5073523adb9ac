-- The counts are those of the clauses read so far.
use Rattle.flip_literals.specs.Steps.Listed.{IsCounted}
use Rattle.flip_literals.proofs.listing.counted.Given as goal

abbrev pub invariant-loop-place : goal.invariant-loop-place
invariant-loop-place l = IsCounted l.formula l.first l.place 0 l.counts.items
