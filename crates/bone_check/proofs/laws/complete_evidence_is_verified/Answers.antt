use Rattle.bone_check.proofs.Completed.{complete_is_verified}
use Rattle.bone_check.proofs.laws.complete_evidence_is_verified.Goals as goal

pub returns : goal.returns
returns c = complete_is_verified
