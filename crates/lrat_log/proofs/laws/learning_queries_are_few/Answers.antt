use Rattle.lrat_log.proofs.QueryCounts.{learning_queries_are_few}
use Rattle.lrat_log.proofs.laws.learning_queries_are_few.Goals as goal

pub returns : goal.returns
returns c = learning_queries_are_few
