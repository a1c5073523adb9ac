use Rattle.lrat_log.proofs.Worked.{worked_bytes}
use Rattle.lrat_log.proofs.laws.worked_bytes.Goals as goal

pub returns : goal.returns
returns c = worked_bytes
