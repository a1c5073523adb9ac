-- One full log is a list of one.
use Rattle.std.proofs.Common.{refl}
use Rattle.backbone_main.proofs.Replies.{spent_of_one}
use Rattle.backbone_main.proofs.reply.nothing_known.Goals as goal

pub returns-clause-says : goal.returns-clause-says
returns-clause-says c = λ F budget L spent.
    (record { answer = refl; proof = refl; witness = refl }, spent_of_one F budget L spent)
