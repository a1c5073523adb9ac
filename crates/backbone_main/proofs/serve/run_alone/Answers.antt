-- By the job of the words.
use Rattle.std.proofs.Common.{map, subst}
use Rattle.std.specs.String.{string_bytes}
use Rattle.bone_words.specs.Settings.{settings_of}
use Rattle.backbone_main.specs.declared.job.Job.{Job}
use Rattle.backbone_main.specs.Steps.Finish.{IsJobOf}
use Rattle.backbone_main.proofs.Serving.{runs_check, runs_extract_alone, runs_sample_alone}
use Rattle.backbone_main.proofs.serve.run_alone.Goals as goal

pub returns-in-Ok-Extract : goal.returns-in-Ok-Extract
returns-in-Ok-Extract g c =
    let wanted = settings_of (map string_bytes c.args.words.now) in
    runs_extract_alone wanted c.in-Ok-Extract.extraction c.extract_alone.result (g.D.Desk.told c.args.desk.now)
    (g.D.Desk.told c.extract_alone.new.desk) (subst (λ (j : Job). IsJobOf wanted j) c.in-Ok-Extract.field-0-is c.in-Ok-Extract.ensures.job) c.extract_alone.ensures

pub returns-in-Ok-Check : goal.returns-in-Ok-Check
returns-in-Ok-Check g c =
    let wanted = settings_of (map string_bytes c.args.words.now) in
    runs_check 1 wanted c.in-Ok-Check.checking c.check.result (g.D.Desk.told c.args.desk.now) (g.D.Desk.told c.check.new.desk)
    (subst (λ (j : Job). IsJobOf wanted j) c.in-Ok-Check.field-0-is c.in-Ok-Check.ensures.job) c.check.ensures

pub returns-in-Ok-Sample : goal.returns-in-Ok-Sample
returns-in-Ok-Sample g c =
    let wanted = settings_of (map string_bytes c.args.words.now) in
    runs_sample_alone wanted c.in-Ok-Sample.sampling c.sample_alone.result (g.D.Desk.told c.args.desk.now)
    (g.D.Desk.told c.sample_alone.new.desk)
    (subst (λ (j : Job). IsJobOf wanted j) c.in-Ok-Sample.field-0-is c.in-Ok-Sample.ensures.job) c.sample_alone.ensures
