use Rattle.lrat_log.proofs.Worked.{worked_epochs}
use Rattle.lrat_log.proofs.laws.worked_epochs.Goals as goal

pub returns : goal.returns
returns c = worked_epochs
