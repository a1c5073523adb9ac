use Rattle.bone_check.proofs.Rightness.{printed_is_right}
use Rattle.bone_check.proofs.laws.printed_literals_are_right.Goals as goal

pub returns : goal.returns
returns c = printed_is_right
