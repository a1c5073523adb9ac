-- The counts are those of the literals read so far.
use Rattle.flip_literals.specs.Steps.Listed.{IsCounted}
use Rattle.flip_literals.proofs.listing.count_clause.Given as goal

abbrev pub invariant-loop-lit : goal.invariant-loop-lit
invariant-loop-lit l = IsCounted l.formula l.first l.place l.lit-index l.counts.items
