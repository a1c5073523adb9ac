-- The looks so far.
use Rattle.flip_literals.specs.Steps.Holding.{IsWork}
use Rattle.flip_literals.proofs.holds.Holds.look_behind.Given as goal

abbrev pub invariant-loop-place : goal.invariant-loop-place
invariant-loop-place l = IsWork l.occurrences l.initial.self l.initial.model l.self l.model
