use Rattle.run_core.proofs.Rounds.{IsGathering}
use Rattle.run_core.proofs.gathered.gather.Given as goal

abbrev pub invariant-loop-slot : goal.invariant-loop-slot
invariant-loop-slot g l =
    IsGathering l.words l.fn.settings.workers l.fn.settings.budget l.slot-iterator.rest.items l.gathered
