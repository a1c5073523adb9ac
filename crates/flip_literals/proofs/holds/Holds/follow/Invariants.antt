-- The looks so far. Each flip adds one variable to those that wait, and there is one less to flip.
use Rattle.std.proofs.Common.{◌+◌, ◌-◌, ◌*◌, length}
use Rattle.flip_literals.specs.Walks.{differences}
use Rattle.flip_literals.specs.Steps.Holding.{IsWork}
use Rattle.flip_literals.proofs.holds.Holds.follow.Given as goal

abbrev pub invariant-loop-var : goal.invariant-loop-var
invariant-loop-var l = IsWork l.occurrences l.initial.self l.initial.model l.self l.model

abbrev pub decreases-loop-var : goal.decreases-loop-var
decreases-loop-var l = 2 * (length l.occurrences.first - differences l.occurrences.first l.model) + length l.self.flipped.items
