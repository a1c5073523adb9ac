use Rattle.bone_check.proofs.Verified.{verified_is_right}
use Rattle.bone_check.proofs.laws.verified_answer_is_right.Goals as goal

pub returns : goal.returns
returns c = verified_is_right
