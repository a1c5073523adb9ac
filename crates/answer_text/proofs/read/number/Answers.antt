-- The first digits write too much already.
use Rattle.std.proofs.Common.{◌+◌, arith}
use Rattle.answer_text.proofs.Digits.{past, digits_more}
use Rattle.answer_text.proofs.read.number.Goals as goal

pub returns-then-number-vars : goal.returns-then-number-vars
returns-then-number-vars c =
    let more = digits_more c.args.bytes.now c.loop-byte.byte-index c.loop-byte-test.true in
    past c.args.bytes.now (c.loop-byte.byte-index + 1) c.args.vars
    (omega (arith, more, c.loop-byte.invariant.0, c.from.ensures, c.if-number-vars.true))
