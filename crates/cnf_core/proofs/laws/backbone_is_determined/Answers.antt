use Rattle.cnf_core.proofs.Shown.{backbone_determined}
use Rattle.cnf_core.proofs.laws.backbone_is_determined.Goals as goal

pub returns : goal.returns
returns c = backbone_determined
