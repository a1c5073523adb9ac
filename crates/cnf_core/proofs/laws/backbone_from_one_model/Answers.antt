use Rattle.cnf_core.proofs.Backbones.{backbone_of_model}
use Rattle.cnf_core.proofs.laws.backbone_from_one_model.Goals as goal

pub returns : goal.returns
returns c = backbone_of_model
