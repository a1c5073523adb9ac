use Rattle.lrat_log.proofs.Entailed.{logged_is_entailed}
use Rattle.lrat_log.proofs.laws.logged_clause_is_entailed.Goals as goal

pub returns : goal.returns
returns c = logged_is_entailed
