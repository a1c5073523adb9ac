use Rattle.cnf_core.proofs.Shown.{shown_of_model}
use Rattle.cnf_core.proofs.laws.shown_backbone_from_one_model.Goals as goal

pub returns : goal.returns
returns c = shown_of_model
