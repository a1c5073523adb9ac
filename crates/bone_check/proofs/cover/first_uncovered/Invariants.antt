use Rattle.std.proofs.Common.{◌≡◌}
use Rattle.bone_check.specs.declared.verdict.Verdict.TheVariants.{Verified}
use Rattle.bone_check.specs.Tests.{each_from}
use Rattle.bone_check.specs.Witnessing.{variables}
use Rattle.bone_check.specs.Steps.Covering.{mark_fault}
use Rattle.bone_check.proofs.cover.first_uncovered.Given as goal

-- the variables so far pass
abbrev pub invariant-loop-k : goal.invariant-loop-k
invariant-loop-k l = each_from (mark_fault l.formula l.covered) 1 (variables l.k) ≡ Verified
