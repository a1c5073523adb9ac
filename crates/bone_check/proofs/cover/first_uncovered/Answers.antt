use Rattle.std.proofs.Common.{◌≡◌, ◌∙◌, ◌+◌, ◌<◌, ℕ, sym, ap, arith}
use Rattle.bone_check.specs.declared.verdict.Verdict.TheVariants.{NotVerified}
use Rattle.bone_check.specs.Steps.Covering.{mark_fault}
use Rattle.bone_check.proofs.Covered.{variables_next, variables_stop}
use Rattle.bone_check.proofs.cover.first_uncovered.Goals as goal

pub returns-in-Some : goal.returns-in-Some
returns-in-Some c =
    let F = c.args.formula.now in
    let k = c.loop-k.k in
    let below : k < F.vars = omega (arith, c.vars-k-end.ensures.value, c.loop-k-test.true) in
    let place : c.from.result + 1 ≡ k + 1 = omega (arith, c.from.ensures) in
    ap (λ (p : ℕ). NotVerified c.in-Some.reason p) place
    ∙ sym (variables_stop (mark_fault F c.args.covered.now) F.vars k c.in-Some.reason below c.loop-k.invariant
    (sym c.mark_fault.ensures ∙ c.in-Some.is))

pub loop-k-preserved : goal.loop-k-preserved
loop-k-preserved c =
    variables_next (mark_fault c.args.formula.now c.args.covered.now) c.loop-k.k c.loop-k.invariant
    (sym c.mark_fault.ensures ∙ c.in_default.is)
