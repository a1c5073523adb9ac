-- The text was read, and what was found was written.
use Rattle.std.proofs.Common.{ap, arith}
use Rattle.run_core.specs.declared.settings.RunSettings.{RunSettings}
use Rattle.backbone_main.specs.Extracting.{extract_uses}
use Rattle.backbone_main.specs.Steps.Finish.{asked}
use Rattle.backbone_main.proofs.Finished.{allows_files, runs_finished}
use Rattle.backbone_main.proofs.extract.extract_alone.Goals as goal

pub returns-in-Ok : goal.returns-in-Ok
returns-in-Ok g c =
    let told = g.D.Desk.told in
    let e = asked c.args.extraction.now in
    let task = c.in-Ok.field-0 in
    let is = c.in-Ok.ensures.task in
    runs_finished 1 task.settings.budget task.files task.formula e c.deliver.result
    (told c.args.desk.now) (told c.read_task.new.desk) (told c.deliver.new.desk)
    (ap (λ (s : RunSettings). s.budget) is.settings) is.files is.read c.read_task.ensures.touches
    (c.deliver.ensures.own (extract_uses e) (allows_files e task.files is.files))
    (c.deliver.ensures.finishes 1 task.settings.budget (omega arith) c.run_one-outcome.ensures)
