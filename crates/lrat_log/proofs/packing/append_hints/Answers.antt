use Rattle.std.proofs.Common.{ℕ, ◌-◌, ◌≤◌, drop, ap, ◌∙◌, arith}
use Rattle.lrat_log.specs.Steps.Unpacked.{values}
use Rattle.lrat_log.proofs.CountedLists.{next_number, next_is, place_within, left_after, mapped_more}
use Rattle.lrat_log.proofs.packing.append_hints.Goals as goal

pub number_at-below-requires : goal.number_at-below-requires
number_at-below-requires c =
    omega (
      arith,
      c.ranges.id.fits,
      next_number (λ d. d ≤ c.args.id) (values (drop c.args.start c.args.bytes.now)) (values
          (drop c.loop-k.at c.args.bytes.now)) c.loop-k._k
          c.number_at-count.result.value c.requires c.number_at-count.ensures.value c.loop-k-test.true c.loop-k.invariant.left,
    )

pub overflow_sub-id : goal.overflow_sub-id
overflow_sub-id c =
    omega (
      arith,
      c.number_at-below.ensures.value,
      next_number (λ d. d ≤ c.args.id) (values (drop c.args.start c.args.bytes.now)) (values
          (drop c.loop-k.at c.args.bytes.now)) c.loop-k._k
          c.number_at-count.result.value c.requires c.number_at-count.ensures.value c.loop-k-test.true c.loop-k.invariant.left,
    )

pub loop-k-preserved : goal.loop-k-preserved
loop-k-preserved c =
    let ns = values (drop c.args.start c.args.bytes.now) in
    let vs = values (drop c.loop-k.at c.args.bytes.now) in
    let id = c.args.id in
    record {
      left = left_after (drop 1 ns) vs (values (drop c.number_at-below.result.end c.args.bytes.now)) c.loop-k._k c.loop-k.invariant.left
          c.number_at-below.ensures.rest;
      hints = mapped_more (λ d. id - d) c.args.hints.now.items c.loop-k.hints.items c.push_reserved.new.self.items
          (id - c.number_at-below.result.value) (drop 1 ns) c.loop-k._k
          (place_within (λ d. d ≤ id) ns c.loop-k._k c.number_at-count.result.value c.requires c.number_at-count.ensures.value
          c.loop-k-test.true)
          (ap (λ (d : ℕ). id - d) (c.number_at-below.ensures.value ∙ next_is (drop 1 ns) vs c.loop-k._k c.loop-k.invariant.left))
          c.loop-k.invariant.hints c.push_reserved.ensures.items;
      room = omega (arith, c.loop-k.invariant.room, c.push_reserved.ensures.capacity);
      size = omega (arith, c.loop-k.invariant.size, c.push_reserved.ensures.len);
    }
