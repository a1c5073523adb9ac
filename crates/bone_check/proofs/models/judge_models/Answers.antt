use Rattle.std.proofs.Common.{◌≡◌, ◌∙◌, ◌+◌, ◌<◌, ℕ, Some, None, length, sym, ap, arith}
use Rattle.cnf_core.specs.Literals.{Assignment}
use Rattle.witness_text.specs.Models.{model_in}
use Rattle.bone_check.specs.declared.verdict.Verdict.TheVariants.{NotVerified}
use Rattle.bone_check.specs.Witnessing.{model_fault}
use Rattle.bone_check.proofs.TestLemmas.{each_next, each_stop}
use Rattle.bone_check.proofs.Judged.{model_read}
use Rattle.bone_check.proofs.models.judge_models.Goals as goal

pub copy_to-requires-clause-same : goal.copy_to-requires-clause-same
copy_to-requires-clause-same c =
    let below : c.loop-number.number < length c.args.models.now = omega (arith, c.len-number-end.ensures, c.loop-number-test.true) in
    c.loop-number.invariant.same ∙ sym (c.requires.models c.loop-number.number below)

pub model_fault-requires : goal.model_fault-requires
model_fault-requires c =
    let below : c.loop-number.number < length c.args.models.now = omega (arith, c.len-number-end.ensures, c.loop-number-test.true) in
    ap (λ (a : Assignment). length a) c.copy_to.ensures ∙ c.requires.models c.loop-number.number below

pub returns-in-Some-clause-verdict : goal.returns-in-Some-clause-verdict
returns-in-Some-clause-verdict c =
    let F = c.args.formula.now in
    let models = c.args.models.now in
    let k = c.loop-number.number in
    let below : k < length models = omega (arith, c.len-number-end.ensures, c.loop-number-test.true) in
    let fails : model_fault F (model_in models k) ≡ Some c.in-Some.reason =
    ap (λ (a : Assignment). model_fault F a) (sym c.copy_to.ensures) ∙ sym c.model_fault.ensures ∙ c.in-Some.is in
    let place : k + 1 ≡ 1 + k = omega arith in
    ap (λ (p : ℕ). NotVerified c.in-Some.reason p) place
    ∙ sym (each_stop (model_fault F) 1 models k (model_in models k) c.in-Some.reason below (model_read models k below)
    c.loop-number.invariant.passed fails)

pub loop-number-preserved : goal.loop-number-preserved
loop-number-preserved c =
    let F = c.args.formula.now in
    let models = c.args.models.now in
    let k = c.loop-number.number in
    let below : k < length models = omega (arith, c.len-number-end.ensures, c.loop-number-test.true) in
    let count : length c.copy_to.new.values ≡ F.vars = ap (λ (a : Assignment). length a) c.copy_to.ensures ∙ c.requires.models k below in
    let passes : model_fault F (model_in models k) ≡ None =
    ap (λ (a : Assignment). model_fault F a) (sym c.copy_to.ensures) ∙ sym c.model_fault.ensures ∙ c.in_default.is in
    record {
      same = count;
      passed = each_next (model_fault F) 1 models k (model_in models k) below (model_read models k below)
          c.loop-number.invariant.passed passes;
    }
