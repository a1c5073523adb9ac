-- The variables so far are marked.
use Rattle.std.proofs.Common.{◌≡◌, length, take}
use Rattle.flip_literals.specs.Steps.Marking.{IsMarkedIn}
use Rattle.flip_literals.proofs.marks.Marks.set_to.Given as goal

abbrev pub invariant-loop-var : goal.invariant-loop-var
invariant-loop-var l = record {
  each : length l.self ≡ length l.initial.self;
  marked : IsMarkedIn l.self (take l.var-index l.vars);
}
