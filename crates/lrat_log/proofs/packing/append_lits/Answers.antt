use Rattle.std.proofs.Common.{drop, arith}
use Rattle.lrat_log.specs.Steps.Unpacked.{values, IsCode}
use Rattle.lrat_log.proofs.CountedLists.{next_number}
use Rattle.lrat_log.proofs.packing.append_lits.Goals as goal

pub number_at-code-requires : goal.number_at-code-requires
number_at-code-requires c =
    let next = next_number IsCode (values (drop c.args.start c.args.bytes.now)) (values (drop c.loop-k.at c.args.bytes.now)) c.loop-k._k
    c.number_at-count.result.value c.requires c.number_at-count.ensures.value c.loop-k-test.true c.loop-k.invariant.left in
    omega (arith, next.high)

pub overflow_cast-code : goal.overflow_cast-code
overflow_cast-code c =
    let next = next_number IsCode (values (drop c.args.start c.args.bytes.now)) (values (drop c.loop-k.at c.args.bytes.now)) c.loop-k._k
    c.number_at-count.result.value c.requires c.number_at-count.ensures.value c.loop-k-test.true c.loop-k.invariant.left in
    omega (arith, next.high, c.number_at-code.ensures.value)

pub from_code-requires : goal.from_code-requires
from_code-requires c =
    let next = next_number IsCode (values (drop c.args.start c.args.bytes.now)) (values (drop c.loop-k.at c.args.bytes.now)) c.loop-k._k
    c.number_at-count.result.value c.requires c.number_at-count.ensures.value c.loop-k-test.true c.loop-k.invariant.left in
    (omega (arith, next.low, c.number_at-code.ensures.value), omega (arith, next.high, c.number_at-code.ensures.value))
