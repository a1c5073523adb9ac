use Rattle.cnf_core.proofs.Shown.{is_shown_backbone}
use Rattle.cnf_core.proofs.laws.shown_backbone_by_members.Goals as goal

pub returns : goal.returns
returns c = is_shown_backbone
