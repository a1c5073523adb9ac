use Rattle.std.proofs.Common.{◌≡◌, length, take}
use Rattle.bone_check.specs.declared.verdict.Verdict.TheVariants.{Verified}
use Rattle.bone_check.specs.Tests.{each_from}
use Rattle.bone_check.specs.Witnessing.{model_fault}
use Rattle.bone_check.proofs.models.judge_models.Given as goal

-- the model lines so far pass
abbrev pub invariant-loop-number : goal.invariant-loop-number
invariant-loop-number l = record {
  same : length l.values ≡ l.formula.vars;
  passed : each_from (model_fault l.formula) 1 (take l.number l.models) ≡ Verified;
}
