-- The reply was written, or the writing stopped.
use Rattle.backbone_main.proofs.Replies.{finishes_writing}
use Rattle.backbone_main.proofs.reply.deliver.Goals as goal

pub returns-in-Ok-clause-finishes : goal.returns-in-Ok-clause-finishes
returns-in-Ok-clause-finishes g c = λ workers budget some says.
    finishes_writing workers budget c.args.files c.args.formula.now c.in-Ok.reply c.write.result
    (g.D.Desk.told c.args.desk.now) (g.D.Desk.told c.write.new.desk)
    (c.in-Ok.ensures.says workers budget some says) (c.in-Ok.ensures.certified workers budget says c.requires.vars) c.write.ensures.writes

pub returns-in-Ok-clause-own : goal.returns-in-Ok-clause-own
returns-in-Ok-clause-own g c = λ may allows. c.write.ensures.own may (c.in-Ok.ensures.wanted may allows)
