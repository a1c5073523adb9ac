use Rattle.lrat_log.proofs.Full.{no_log_is_full}
use Rattle.lrat_log.proofs.laws.no_log_is_full.Goals as goal

pub returns : goal.returns
returns c = no_log_is_full
