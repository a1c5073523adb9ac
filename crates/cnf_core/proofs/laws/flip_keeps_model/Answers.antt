use Rattle.cnf_core.proofs.Flips.{flipped_model}
use Rattle.cnf_core.proofs.laws.flip_keeps_model.Goals as goal

pub returns : goal.returns
returns c = flipped_model
