use Rattle.std.proofs.Common.{◌∙◌, ap₂}
use Rattle.std.proofs.lemmas.Result.{IfOk-weaker}
use Rattle.clap.specs.Words.{with_rule}
use Rattle.bone_words.specs.Commands.{extract_command}
use Rattle.bone_words.proofs.commands.extract_command.Goals as goal

pub returns : goal.returns
unfolding extract_command
returns c =
    let workers = c.in_ok-arg.ensures.shape c.workers_arg.ensures.local ∙ ap₂ with_rule c.new.ensures.app c.workers_arg.ensures.rule in
    let budget = c.in_ok-arg-2.ensures.shape c.budget_arg.ensures.local ∙ ap₂ with_rule workers c.budget_arg.ensures.rule in
    let seed = c.in_ok-arg-3.ensures.shape c.seed_arg.ensures.local ∙ ap₂ with_rule budget c.seed_arg.ensures.rule in
    let proof = c.in_ok-arg-4.ensures.shape c.name_arg.ensures.local ∙ ap₂ with_rule seed c.name_arg.ensures.rule in
    let witness = c.in_ok-arg-5.ensures.shape c.name_arg-2.ensures.local ∙ ap₂ with_rule proof c.name_arg-2.ensures.rule in
    IfOk-weaker c.arg-6.result _ _
    (λ command added. added.shape c.place_arg.ensures.local ∙ ap₂ with_rule witness c.place_arg.ensures.rule)
    c.arg-6.ensures
