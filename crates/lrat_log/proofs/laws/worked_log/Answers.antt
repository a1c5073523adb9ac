use Rattle.lrat_log.proofs.Worked.{worked}
use Rattle.lrat_log.proofs.laws.worked_log.Goals as goal

pub returns : goal.returns
returns c = worked
