use Rattle.board_core.proofs.Worked.{run_is_worked}
use Rattle.board_core.proofs.laws.worked_example.Goals as goal

pub returns : goal.returns
returns c = run_is_worked
