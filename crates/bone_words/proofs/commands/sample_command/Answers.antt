use Rattle.std.proofs.Common.{◌∙◌, ap₂}
use Rattle.std.proofs.lemmas.Result.{IfOk-weaker}
use Rattle.clap.specs.Words.{with_rule}
use Rattle.bone_words.specs.Commands.{sample_command}
use Rattle.bone_words.proofs.commands.sample_command.Goals as goal

pub returns : goal.returns
unfolding sample_command
returns c =
    let vars = c.in_ok-arg.ensures.shape c.number_arg.ensures.local ∙ ap₂ with_rule c.new.ensures.app c.number_arg.ensures.rule in
    let clauses = c.in_ok-arg-2.ensures.shape c.number_arg-2.ensures.local ∙ ap₂ with_rule vars c.number_arg-2.ensures.rule in
    let workers = c.in_ok-arg-3.ensures.shape c.workers_arg.ensures.local ∙ ap₂ with_rule clauses c.workers_arg.ensures.rule in
    let budget = c.in_ok-arg-4.ensures.shape c.budget_arg.ensures.local ∙ ap₂ with_rule workers c.budget_arg.ensures.rule in
    IfOk-weaker c.arg-5.result _ _
    (λ command added. added.shape c.seed_arg.ensures.local ∙ ap₂ with_rule budget c.seed_arg.ensures.rule)
    c.arg-5.ensures
