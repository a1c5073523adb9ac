use Rattle.cnf_core.proofs.Shown.{shown_backbone_determined}
use Rattle.cnf_core.proofs.laws.shown_backbone_is_determined.Goals as goal

pub returns : goal.returns
returns c = shown_backbone_determined
