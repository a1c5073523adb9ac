use Rattle.std.proofs.Common.{◌-◌, length}
use Rattle.run_core.specs.Steps.Crews.{IsSplitting}
use Rattle.run_core.proofs.crew.split_seats.Given as goal

abbrev pub invariant-loop-slots : goal.invariant-loop-slots
invariant-loop-slots g l = IsSplitting l.words l.workers l.root l.slots.items

abbrev pub decreases-loop-slots : goal.decreases-loop-slots
decreases-loop-slots g l = l.workers - length l.slots.items
