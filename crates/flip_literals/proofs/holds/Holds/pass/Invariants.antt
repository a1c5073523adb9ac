-- The pass over the candidates so far.
use Rattle.std.proofs.Common.{◌≡◌}
use Rattle.flip_literals.specs.Steps.Holding.{IsHolding}
use Rattle.flip_literals.proofs.Walked.{IsPassing}
use Rattle.flip_literals.proofs.holds.Holds.pass.Given as goal

abbrev pub invariant-loop-var : goal.invariant-loop-var
invariant-loop-var l = record {
  holding : IsHolding l.occurrences l.self l.model;
  listed : l.self.listed ≡ l.initial.self.listed;
  passing : IsPassing l.occurrences l.candidates l.var-index l.initial.model l.model l.changed;
}
