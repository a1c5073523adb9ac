-- The crew has the settings of the run.
use Rattle.run_core.proofs.run.finish_alone.Goals as goal

pub run_in_turn-requires-clause-crew : goal.run_in_turn-requires-clause-crew
run_in_turn-requires-clause-crew g c = rw c.in_ok-crew.ensures.settings c.in_ok-crew.ensures.crew
