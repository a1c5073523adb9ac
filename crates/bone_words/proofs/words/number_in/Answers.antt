use Rattle.std.proofs.Common.{◌∙◌}
use Rattle.bone_words.proofs.Numerals.{none_parsed, some_parsed, low_parsed, high_parsed}
use Rattle.bone_words.proofs.words.number_in.Goals as goal

pub returns-in_err-number-clause-value : goal.returns-in_err-number-clause-value
returns-in_err-number-clause-value c =
    c.from_residual.ensures
    ∙ none_parsed c.args.low c.args.high c.args.text.now c.parse.result c.parse.ensures.value.0 c.in_err-number.ensures.value

pub returns-then-number-low-clause-value : goal.returns-then-number-low-clause-value
returns-then-number-low-clause-value c =
    low_parsed c.args.low c.args.high c.args.text.now c.parse.result c.in_ok-number.number c.parse.ensures.value.0
    c.in_ok-number.ensures.value c.if-number-low.true

pub returns-then-number-high-clause-value : goal.returns-then-number-high-clause-value
returns-then-number-high-clause-value c =
    high_parsed c.args.low c.args.high c.args.text.now c.parse.result c.in_ok-number.number c.parse.ensures.value.0
    c.in_ok-number.ensures.value c.if-number-high.true

pub returns-clause-value : goal.returns-clause-value
returns-clause-value c =
    some_parsed c.args.low c.args.high c.args.text.now c.parse.result c.in_ok-number.number c.parse.ensures.value.0
    c.in_ok-number.ensures.value c.if-number-low.false c.if-number-high.false
