use Rattle.cnf_core.proofs.Backbones.{entailed_by_refutation}
use Rattle.cnf_core.proofs.laws.entailed_when_negation_has_no_model.Goals as goal

pub returns : goal.returns
returns c = entailed_by_refutation
