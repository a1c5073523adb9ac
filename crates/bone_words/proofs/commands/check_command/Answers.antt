use Rattle.std.proofs.Common.{◌∙◌, ap₂}
use Rattle.std.proofs.lemmas.Result.{IfOk-weaker}
use Rattle.clap.specs.Words.{with_rule}
use Rattle.bone_words.specs.Commands.{check_command}
use Rattle.bone_words.proofs.commands.check_command.Goals as goal

pub returns : goal.returns
unfolding check_command
returns c =
    let first = c.in_ok-arg.ensures.shape c.place_arg.ensures.local ∙ ap₂ with_rule c.new.ensures.app c.place_arg.ensures.rule in
    let second = c.in_ok-arg-2.ensures.shape c.place_arg-2.ensures.local ∙ ap₂ with_rule first c.place_arg-2.ensures.rule in
    let third = c.in_ok-arg-3.ensures.shape c.place_arg-3.ensures.local ∙ ap₂ with_rule second c.place_arg-3.ensures.rule in
    IfOk-weaker c.arg-4.result _ _
    (λ command added. added.shape c.place_arg-4.ensures.local ∙ ap₂ with_rule third c.place_arg-4.ensures.rule)
    c.arg-4.ensures
