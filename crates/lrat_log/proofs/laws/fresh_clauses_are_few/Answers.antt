use Rattle.lrat_log.proofs.Digits.{fresh_clauses_are_few}
use Rattle.lrat_log.proofs.laws.fresh_clauses_are_few.Goals as goal

pub returns : goal.returns
returns c = fresh_clauses_are_few
