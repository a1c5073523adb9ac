use Rattle.std.proofs.Common.{◌≡◌, ◌+◌, ◌≤◌, length, refl, ap, ◌∙◌, arith}
use Rattle.model_store.specs.Stores.{model_at}
use Rattle.model_store.proofs.Flipped.{model_at_is_model}
use Rattle.witness_text.specs.WitnessText.{digit_of}
use Rattle.witness_text.proofs.Written.{filled-more, filled-all}
use Rattle.witness_text.proofs.write.fill_digits.Goals as goal

pub loop-i-init : goal.loop-i-init
loop-i-init c = record { within = omega arith; front = refl }

pub loop-i-preserved : goal.loop-i-preserved
loop-i-preserved c =
    let s = c.args.models.now in
    let a = model_at s c.args.model in
    let len : length a ≡ s.formula.vars = (model_at_is_model s c.args.model c.value.ensures.holds c.requires.model).values in
    let room : c.args.first + length c.loop-i.digits ≤ length a = omega (arith, len, c.requires.vars, c.loop-i.auto.digits) in
    filled-more a c.args.first c.loop-i.digits c.loop-i.i c.digit_of.result c.loop-i.invariant
    (omega (arith, c.loop-i.auto.digits, c.loop-i-test.true)) room
    (c.digit_of.ensures ∙ ap digit_of c.value.ensures.value)

pub returns : goal.returns
returns c =
    filled-all (model_at c.args.models.now c.args.model) c.args.first (length c.args.digits.now) c.loop-i.digits c.loop-i.i
    c.loop-i.invariant (omega (arith, c.loop-i.auto.digits, c.loop-i-test.false)) (omega (arith, c.loop-i.auto.digits))
