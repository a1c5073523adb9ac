use Rattle.run_core.specs.Steps.Crews.{HaveRun}
use Rattle.run_core.proofs.slot.run_in_turn.Given as goal

abbrev pub invariant-loop-slot : goal.invariant-loop-slot
invariant-loop-slot g l = HaveRun l.words l.slot-index l.initial.slots l.slots
