-- Where epochs end.
use Rattle.std.proofs.Common.{ℕ, suc, ◌+◌, ◌^◌, ◌<◌, ◌≤◌, ⊎_elim, arith}
use Rattle.std.proofs.Math.Nat.{pow-le-pow_right}
use Rattle.std.proofs.lemmas.Bool.{cases_lt}
use Rattle.cnf_core.specs.Epochs.{epoch_start}
use Rattle.search_policy.specs.Epochs.{EpochState, IsInEpoch, IsEnd}

starts_rise : (a b : ℕ) → a ≤ b → epoch_start a ≤ epoch_start b
starts_rise a b rises =
    let powers : 2 ^ a ≤ 2 ^ b = pow-le-pow_right (omega arith) rises in
    omega (arith, powers)

-- within an epoch none ends
pub no_end : (e : EpochState) → IsInEpoch e → e.count + 1 < epoch_start (suc e.epoch) → IsEnd (e.count + 1) → ⊥
no_end e now before end = ⊎_elim
    (λ (early : end.epoch < e.epoch).
    absurd (omega (arith, starts_rise (suc end.epoch) e.epoch (omega arith), now.begun, end.is)))
    (λ (late : e.epoch ≤ end.epoch).
    absurd (omega (arith, starts_rise (suc e.epoch) (suc end.epoch) (omega arith), before, end.is)))
    (cases_lt end.epoch e.epoch)
