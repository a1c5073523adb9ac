use Rattle.cnf_core.proofs.Models.{models_members}
use Rattle.cnf_core.proofs.laws.models_are_members.Goals as goal

pub returns : goal.returns
returns c = models_members
