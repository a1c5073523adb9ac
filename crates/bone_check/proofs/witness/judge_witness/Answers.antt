use Rattle.std.proofs.Common.{◌∙◌, sym}
use Rattle.bone_check.proofs.Witnessed.{verified_of, are_models}
use Rattle.bone_check.proofs.witness.judge_witness.Goals as goal

pub judge_lines-requires-clause-models : goal.judge_lines-requires-clause-models
judge_lines-requires-clause-models c =
    are_models c.args.formula.now c.args.text.now.models c.requires.text.models
    (sym c.judge_models-verdict.ensures.verdict ∙ verified_of c.judge_models-verdict.result (sym c.is_verified.ensures ∙ c.if-not-is_verified.false))
