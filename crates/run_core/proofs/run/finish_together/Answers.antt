-- The crew has the settings of the run.
use Rattle.run_core.proofs.run.finish_together.Goals as goal

pub run_on_threads-requires-clause-crew : goal.run_on_threads-requires-clause-crew
run_on_threads-requires-clause-crew g c = λ κs bounds. rw c.in_ok-crew.ensures.settings c.in_ok-crew.ensures.crew
