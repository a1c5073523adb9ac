-- The whole text, or a front of it.
use Rattle.backbone_main.specs.Steps.Finish.{asked_sample}
use Rattle.backbone_main.proofs.Sampled.{runs_told, runs_stopped}
use Rattle.backbone_main.proofs.sampling.put_finding.Goals as goal

pub returns-in-Ok : goal.returns-in-Ok
returns-in-Ok g c = λ workers is.
    runs_told workers (asked_sample c.args.sampling) c.args.finding c.ending_of.result (g.D.Desk.told c.args.desk.now)
    (g.D.Desk.told c.write_finding.new.desk) c.ending_of.ensures is c.in-Ok.ensures.given c.write_finding.ensures.only

pub returns-in-Err : goal.returns-in-Err
returns-in-Err g c = λ workers is.
    runs_stopped workers (asked_sample c.args.sampling) c.args.finding (g.D.Desk.told c.args.desk.now)
    (g.D.Desk.told c.write_finding.new.desk) is c.in-Err.ensures.front c.write_finding.ensures.only c.in-Err.ensures.cause
