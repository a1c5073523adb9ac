use Rattle.std.proofs.Common.{◌≡◌, List, take}
use Rattle.lrat_lines.specs.declared.line.Line.{Line}
use Rattle.lrat_checker.specs.Checking.{StandsFor}
use Rattle.bone_check.specs.declared.verdict.Verdict.TheVariants.{Verified}
use Rattle.bone_check.specs.Tests.{each_from}
use Rattle.bone_check.specs.Proving.{unit_fault}
use Rattle.bone_check.proofs.units.judge_units.Given as goal

-- the literals so far pass
abbrev pub invariant-loop-i : goal.invariant-loop-i
invariant-loop-i l = (lines : List Line) → StandsFor l.checker l.formula lines
    → each_from (unit_fault l.formula lines) 2 (take l.i l.fixed) ≡ Verified
