-- Each pass so far flipped a candidate.
use Rattle.std.proofs.Common.{◌+◌, ◌≤◌}
use Rattle.flip_literals.specs.Walks.{IsWalked, differences}
use Rattle.flip_literals.specs.Steps.Marking.{IsMarkedIn}
use Rattle.flip_literals.specs.Steps.Holding.{IsHolding}
use Rattle.flip_literals.proofs.walker.Walker.walk.Given as goal

abbrev pub invariant-loop-pass : goal.invariant-loop-pass
invariant-loop-pass l = record {
  holding : IsHolding l.occurrences l.self-inside.holds l.model;
  listed : IsMarkedIn l.self-inside.holds.listed l.candidates;
  walked : IsWalked l.occurrences l.candidates l.initial.model l.model;
  more : differences l.occurrences.first l.initial.model + l._pass ≤ differences l.occurrences.first l.model;
}
