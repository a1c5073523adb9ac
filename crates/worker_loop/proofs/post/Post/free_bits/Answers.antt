use Rattle.std.proofs.Common.{ℕ, ◌+◌, ◌*◌, ◌<◌, ◌≤◌, arith}
use Rattle.cnf_core.specs.Formulas.{IsModel}
use Rattle.model_check.specs.Flips.{flipped}
use Rattle.worker_loop.specs.Steps.Dropping.{var_at}
use Rattle.worker_loop.proofs.Picks.{OnFree, OffFree, picks_none, bit_on, var_within, free_on, free_off, skipped}
use Rattle.worker_loop.proofs.post.Post.free_bits.Goals.{then-has_bit+then-is_free, else-has_bit, else-has_bit-via-then-has_bit+else-is_free, else-has_bit-via-else-has_bit}
use Rattle.worker_loop.proofs.post.Post.free_bits.Goals as goal

pub loop-bit-init : goal.loop-bit-init
loop-bit-init c =
    picks_none (OnFree c.args.self.now.question.now.formula c.args.model.now c.args.group c.args.kept)
    (OffFree c.args.self.now.question.now.formula c.args.model.now c.args.group c.args.kept)

within : (c : goal.Then-has_bit) → 32 * c.args.group + c.loop-bit.bit + 1 ≤ c.args.self.now.question.now.formula.vars
within c =
    var_within c.args.self.now.question.now.formula c.args.group c.loop-bit.bit
    (c.requires.kept c.loop-bit.bit c.loop-bit-test.true (bit_on c.args.kept c.loop-bit.bit c.has_bit.result c.has_bit.ensures
    c.if-has_bit.true))

pub overflow_mul-group : goal.overflow_mul-group
overflow_mul-group c = omega (arith, within c, c.requires.post.limit)

pub overflow_add-group : goal.overflow_add-group
overflow_add-group c = omega (arith, within c, c.requires.post.limit)

pub overflow_add-group-then-has_bit : goal.overflow_add-group-then-has_bit
overflow_add-group-then-has_bit c = omega (arith, within c, c.requires.post.limit)

pub is_free-requires-clause-var : goal.is_free-requires-clause-var
is_free-requires-clause-var c = (omega arith, within c)

pub loop-bit-preserved : goal.loop-bit-preserved
loop-bit-preserved c =
    elim c.if-has_bit.branch [
      | then-has_bit+then-is_free w ↦
          free_on c.args.self.now.question.now.formula c.args.model.now c.args.group c.args.kept c.loop-bit.bit c.loop-bit.free
          c.if-has_bit.free
          c.has_bit.result w.is_free.result c.loop-bit-test.true c.loop-bit.invariant c.has_bit.ensures w.if-has_bit.true
          w.is_free.ensures w.if-is_free.true w.free-is
      | else-has_bit w ↦ elim w.else-has_bit.branch [
        | else-has_bit-via-then-has_bit+else-is_free v ↦
            free_off c.args.self.now.question.now.formula c.args.model.now c.args.group c.args.kept c.loop-bit.bit c.loop-bit.free
            c.if-has_bit.free v.is_free.result c.loop-bit.invariant v.is_free.ensures v.if-is_free.false w.free-is
        | else-has_bit-via-else-has_bit v ↦
            skipped (OnFree c.args.self.now.question.now.formula c.args.model.now c.args.group c.args.kept)
            (λ (i : ℕ). IsModel c.args.self.now.question.now.formula (flipped c.args.model.now (var_at c.args.group i)) → ⊥)
            c.args.kept c.loop-bit.bit c.loop-bit.free c.if-has_bit.free c.has_bit.result c.loop-bit.invariant c.has_bit.ensures
            v.if-has_bit.false w.free-is
      ]
    ]

pub returns : goal.returns
returns c = record {
  free = c.loop-bit.invariant.on;
  rest = λ i low is_kept open_one off. let below : i < c.loop-bit.bit = omega arith in c.loop-bit.invariant.off i below off is_kept;
}
