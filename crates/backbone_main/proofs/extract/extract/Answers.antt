-- The text was read, and what was found was written.
use Rattle.std.proofs.Common.{◌≡◌, ℕ, ap, arith, subst}
use Rattle.run_core.specs.declared.settings.RunSettings.{RunSettings}
use Rattle.backbone_main.specs.Extracting.{extract_uses}
use Rattle.backbone_main.specs.Steps.Finish.{asked}
use Rattle.backbone_main.specs.Steps.Replies.{Finishes}
use Rattle.backbone_main.proofs.Finished.{allows_files, runs_finished}
use Rattle.backbone_main.proofs.extract.extract.Goals as goal

pub returns-in-Ok : goal.returns-in-Ok
returns-in-Ok g c =
    let told = g.D.Desk.told in
    let extraction = c.args.extraction.now in
    let e = asked extraction in
    let task = c.in-Ok.field-0 in
    let is = c.in-Ok.ensures.task in
    let same : task.settings.workers ≡ extraction.settings.workers = ap (λ (s : RunSettings). s.workers) is.settings in
    runs_finished extraction.settings.workers task.settings.budget task.files task.formula e c.deliver.result
    (told c.args.desk.now) (told c.read_task.new.desk) (told c.deliver.new.desk)
    (ap (λ (s : RunSettings). s.budget) is.settings) is.files is.read c.read_task.ensures.touches
    (c.deliver.ensures.own (extract_uses e) (allows_files e task.files is.files))
    (subst (λ (n : ℕ). Finishes n task.settings.budget task.files task.formula c.deliver.result
    (told c.read_task.new.desk) (told c.deliver.new.desk)) same
    (c.deliver.ensures.finishes task.settings.workers task.settings.budget
    (omega (arith, same, c.requires.limits.some_workers)) c.run_many-outcome.ensures))
