use Rattle.lrat_lines.proofs.Entailment.{proved_is_entailed}
use Rattle.lrat_lines.proofs.laws.proved_clause_is_entailed.Goals as goal

pub returns : goal.returns
returns c = proved_is_entailed
