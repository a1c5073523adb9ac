use Rattle.std.proofs.Common.{◌≡◌, ℕ, ◌+◌, ◌*◌, ◌<◌, ◌≤◌, arith}
use Rattle.cnf_core.specs.Literals.{value_of}
use Rattle.worker_loop.specs.Steps.Dropping.{var_at}
use Rattle.worker_loop.proofs.Picks.{OnAgainst, OffAgainst, picks_none, bit_on, var_within, against_on, against_off, skipped}
use Rattle.worker_loop.proofs.post.Post.against_bits.Goals.{then-has_bit+then-is_against, else-has_bit, else-has_bit-via-then-has_bit+else-is_against, else-has_bit-via-else-has_bit}
use Rattle.worker_loop.proofs.post.Post.against_bits.Goals as goal

pub loop-bit-init : goal.loop-bit-init
loop-bit-init c =
    picks_none (OnAgainst c.args.self.now.question.now c.args.model.now c.args.group c.args.among)
    (OffAgainst c.args.self.now.question.now c.args.model.now c.args.group c.args.among)

within : (c : goal.Then-has_bit) → 32 * c.args.group + c.loop-bit.bit + 1 ≤ c.args.self.now.question.now.formula.vars
within c =
    var_within c.args.self.now.question.now.formula c.args.group c.loop-bit.bit
    (c.requires.among c.loop-bit.bit c.loop-bit-test.true (bit_on c.args.among c.loop-bit.bit c.has_bit.result c.has_bit.ensures
    c.if-has_bit.true))

pub overflow_mul-group : goal.overflow_mul-group
overflow_mul-group c = omega (arith, within c, c.requires.post.limit)

pub overflow_add-group : goal.overflow_add-group
overflow_add-group c = omega (arith, within c, c.requires.post.limit)

pub overflow_add-group-then-has_bit : goal.overflow_add-group-then-has_bit
overflow_add-group-then-has_bit c = omega (arith, within c, c.requires.post.limit)

pub is_against-requires-clause-var : goal.is_against-requires-clause-var
is_against-requires-clause-var c = (omega arith, within c)

pub loop-bit-preserved : goal.loop-bit-preserved
loop-bit-preserved c =
    elim c.if-has_bit.branch [
      | then-has_bit+then-is_against w ↦
          against_on c.args.self.now.question.now c.args.model.now c.args.group c.args.among c.loop-bit.bit c.loop-bit.against
          c.if-has_bit.against
          c.has_bit.result w.is_against.result c.loop-bit-test.true c.loop-bit.invariant c.has_bit.ensures w.if-has_bit.true
          w.is_against.ensures w.if-is_against.true w.against-is
      | else-has_bit w ↦ elim w.else-has_bit.branch [
        | else-has_bit-via-then-has_bit+else-is_against v ↦
            against_off c.args.self.now.question.now c.args.model.now c.args.group c.args.among c.loop-bit.bit c.loop-bit.against
            c.if-has_bit.against v.is_against.result c.loop-bit.invariant v.is_against.ensures v.if-is_against.false w.against-is
        | else-has_bit-via-else-has_bit v ↦
            skipped (OnAgainst c.args.self.now.question.now c.args.model.now c.args.group c.args.among)
            (λ (i : ℕ). value_of c.args.model.now (var_at c.args.group i) ≡ value_of c.args.self.now.question.now.phases
            (var_at c.args.group i))
            c.args.among c.loop-bit.bit c.loop-bit.against c.if-has_bit.against c.has_bit.result c.loop-bit.invariant c.has_bit.ensures
            v.if-has_bit.false w.against-is
      ]
    ]

pub returns : goal.returns
returns c = record {
  against = c.loop-bit.invariant.on;
  rest = λ i low among off. let below : i < c.loop-bit.bit = omega arith in c.loop-bit.invariant.off i below off among;
}
