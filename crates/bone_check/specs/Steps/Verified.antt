-- Whether tests passed, and the tests of a witness behind its models.
use Rattle.std.specs.Prelude.{◌+◌, Bool, true, false, List, length}
use Rattle.cnf_core.specs.Literals.{Literals, Assignment}
use Rattle.cnf_core.specs.Formulas.{Cnf}
use Rattle.witness_text.specs.declared.line.WitnessLine.{WitnessLine}
use Rattle.bone_check.specs.declared.verdict.Verdict.{Verdict}
use Rattle.bone_check.specs.declared.verdict.Verdict.TheVariants.{Verified, NotVerified}
use Rattle.bone_check.specs.Tests.{◌then◌, each_from}
use Rattle.bone_check.specs.Witnessing.{drop_fault, cover_fault, variables}

abbrev pub is_verified : Verdict → Bool
is_verified Verified = true
is_verified (NotVerified reason place) = false

-- the tests of the drop lines and of what they cover
abbrev pub lines_verdict : Cnf → Literals → List Assignment → List WitnessLine → Verdict
lines_verdict F fixed models drops =
    each_from (drop_fault F models) (length models + 1) drops then each_from (cover_fault F fixed drops) 1 (variables F.vars)
