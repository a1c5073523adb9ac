-- By the job of the words.
use Rattle.std.proofs.Common.{map, subst}
use Rattle.std.specs.String.{string_bytes}
use Rattle.bone_words.specs.Settings.{settings_of}
use Rattle.backbone_main.specs.Words.{workers_of}
use Rattle.backbone_main.specs.declared.job.Job.{Job}
use Rattle.backbone_main.specs.Steps.Finish.{IsJobOf}
use Rattle.backbone_main.proofs.Serving.{runs_check, runs_extract, runs_sample}
use Rattle.backbone_main.proofs.serve.run_threads.Goals as goal

pub returns-in-Ok-Extract : goal.returns-in-Ok-Extract
returns-in-Ok-Extract g c =
    let wanted = settings_of (map string_bytes c.args.words.now) in
    runs_extract wanted c.in-Ok-Extract.extraction c.extract.result (g.D.Desk.told c.args.desk.now) (g.D.Desk.told c.extract.new.desk)
    (subst (λ (j : Job). IsJobOf wanted j) c.in-Ok-Extract.field-0-is c.in-Ok-Extract.ensures.job) c.extract.ensures

pub returns-in-Ok-Check : goal.returns-in-Ok-Check
returns-in-Ok-Check g c =
    let wanted = settings_of (map string_bytes c.args.words.now) in
    runs_check (workers_of wanted) wanted c.in-Ok-Check.checking c.check.result (g.D.Desk.told c.args.desk.now)
    (g.D.Desk.told c.check.new.desk) (subst (λ (j : Job). IsJobOf wanted j) c.in-Ok-Check.field-0-is c.in-Ok-Check.ensures.job) c.check.ensures

pub returns-in-Ok-Sample : goal.returns-in-Ok-Sample
returns-in-Ok-Sample g c =
    let wanted = settings_of (map string_bytes c.args.words.now) in
    runs_sample wanted c.in-Ok-Sample.sampling c.sample.result (g.D.Desk.told c.args.desk.now) (g.D.Desk.told c.sample.new.desk)
    (subst (λ (j : Job). IsJobOf wanted j) c.in-Ok-Sample.field-0-is c.in-Ok-Sample.ensures.job) c.sample.ensures
