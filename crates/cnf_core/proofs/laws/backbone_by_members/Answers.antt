use Rattle.cnf_core.proofs.Backbones.{is_backbone}
use Rattle.cnf_core.proofs.laws.backbone_by_members.Goals as goal

pub returns : goal.returns
returns c = is_backbone
