-- A weight that wraps is one that no group is left for.
use Rattle.std.proofs.Common.{◌≡◌, ℕ, zero, suc, ◌+◌, ◌-◌, ◌*◌, ◌%◌, ◌^◌, ◌<◌, get_or, drop, sym, ap, ◌∙◌, arith}
use Rattle.lrat_log.specs.Steps.Unpacked.{values, first}
use Rattle.lrat_log.proofs.Groups.{first_goes_on}
use Rattle.lrat_log.proofs.numbers.number_at.Goals as goal

with_group : (v w g f n : ℕ) → v + w * (g + 128 * f) ≡ n → n < 2 ^ 64 → v + g * w + w * 128 % 2 ^ 64 * f ≡ n
with_group v w g zero n is fits = omega arith
with_group v w g (suc f) n is fits =
    let small : w * 128 < 2 ^ 64 = omega arith in
    let same : w * 128 % 2 ^ 64 ≡ w * 128 = omega arith in
    ap (λ (x : ℕ). v + g * w + x * suc f) same ∙ omega arith

pub loop-k-preserved : goal.loop-k-preserved
loop-k-preserved c =
    let k = c.loop-k.k in
    let bytes = c.args.bytes.now in
    let step = first_goes_on bytes k c.loop-k-test.true c.if-byte-lt128.false in
    let left = first (values (drop (k + 1) bytes)) in
    record {
      number = ap (λ (g : ℕ). c.loop-k.value + g * c.loop-k.weight + c.loop-k.weight * 128 % 2 ^ 64 * left) c.from-in-loop-k.ensures
          ∙ with_group c.loop-k.value c.loop-k.weight (get_or bytes k 0 - 128) left (first (values (drop c.args.at bytes)))
          (ap (λ (f : ℕ). c.loop-k.value + c.loop-k.weight * f) (sym step.0) ∙ c.loop-k.invariant.number) c.requires;
      rest = sym step.1 ∙ c.loop-k.invariant.rest;
    }
