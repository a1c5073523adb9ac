-- What was done is done before the note; a text given whole is answered.
use Rattle.backbone_main.proofs.Serving.{serves}
use Rattle.backbone_main.proofs.serve.conclude.Goals as goal

pub returns : goal.returns
returns g c = λ workers wanted old runs.
    serves workers wanted c.args.ending c.report.result old (g.D.Desk.told c.args.desk.now) (g.D.Desk.told c.report.new.desk)
    c.no_log_is_full.ensures c.report.ensures.status c.report.ensures.note c.report.ensures.only runs
