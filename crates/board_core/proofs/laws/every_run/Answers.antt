use Rattle.board_core.proofs.Runs.{every_run}
use Rattle.board_core.proofs.laws.every_run.Goals as goal

pub returns : goal.returns
returns c = every_run
