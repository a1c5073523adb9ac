use Rattle.bone_check.proofs.Completed.{refutation_is_verified}
use Rattle.bone_check.proofs.laws.refutation_is_verified.Goals as goal

pub returns : goal.returns
returns c = refutation_is_verified
