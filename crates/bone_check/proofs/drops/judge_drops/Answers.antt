use Rattle.std.proofs.Common.{◌≡◌, ◌∙◌, ◌+◌, ℕ, length, sym, ap, arith}
use Rattle.bone_check.specs.declared.verdict.Reason.TheVariants.{NotAgainst}
use Rattle.bone_check.specs.declared.verdict.Verdict.TheVariants.{NotVerified}
use Rattle.bone_check.proofs.Dropped.{drops_pass, drops_fail_at}
use Rattle.bone_check.proofs.drops.judge_drops.Goals as goal

pub returns-then-place-drops : goal.returns-then-place-drops
returns-then-place-drops c =
    sym (drops_pass c.args.formula.now c.args.models.now c.args.drops.now (length c.args.models.now + 1) c.first_failing-place.result
    c.if-place-drops.true c.requires.named c.first_failing-place.ensures.pass)

pub returns : goal.returns
returns c =
    let place = c.first_failing-place.result in
    let count : c.len-2.result + 1 + place ≡ length c.args.models.now + 1 + place = omega (arith, c.len-2.ensures) in
    ap (λ (p : ℕ). NotVerified NotAgainst p) count
    ∙ sym (drops_fail_at c.args.formula.now c.args.models.now c.args.drops.now (length c.args.models.now + 1) place
    (omega (arith, c.first_failing-place.ensures.within, c.if-place-drops.false))
    c.requires.named c.first_failing-place.ensures.pass c.first_failing-place.ensures.fails)
