use Rattle.std.proofs.Common.{◌+◌, ◌-◌, ◌*◌, refl, arith}
use Rattle.board_core.proofs.Ends.{candidate-lt, word_fits, word_more, word_begins, word_whole}
use Rattle.board_core.proofs.opening.opening_word.Goals as goal

pub loop-done-init : goal.loop-done-init
loop-done-init c = (word_begins c.args.formula.now (32 * c.args.group + 32 + 1 - 0), refl)

pub overflow_mul-word : goal.overflow_mul-word
overflow_mul-word c =
    let small = word_fits c.args.formula.now (32 * c.args.group + 32 + 1 - c.loop-done.done) c.loop-done.done c.loop-done.word c.loop-done.invariant.0
    (omega arith) in omega arith

pub overflow_add-word : goal.overflow_add-word
overflow_add-word c =
    let small = word_fits c.args.formula.now (32 * c.args.group + 32 + 1 - c.loop-done.done) c.loop-done.done c.loop-done.word c.loop-done.invariant.0
    (omega arith) in
    omega (arith, c.candidate_bit.ensures, candidate-lt c.args.formula.now (32 * c.args.group + 32 - c.loop-done.done))

pub loop-done-preserved : goal.loop-done-preserved
loop-done-preserved c = (
  word_more c.args.formula.now (32 * c.args.group + 32) c.loop-done.done c.loop-done.word c.candidate_bit.result c.loop-done.invariant.0
      (omega arith) c.candidate_bit.ensures,
  refl,
)

pub returns : goal.returns
returns c =
    word_whole c.args.formula.now c.args.group (32 * c.args.group + 32) c.loop-done.word c.loop-done.done refl (omega arith) c.loop-done.invariant.0
