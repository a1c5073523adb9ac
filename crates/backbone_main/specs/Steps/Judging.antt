-- What a check does behind its text.
use Rattle.std.specs.Prelude.{◌≡◌, ◌⊎◌, Bool, Result, Ok, Err}
use Rattle.bone_desk.specs.declared.desk.Port.TheVariants as port
use Rattle.bone_desk.specs.declared.desk.Act.TheVariants.{Read, Write}
use Rattle.bone_desk.specs.Told.{Told, Rose, WritesOnly, Gave}
use Rattle.bone_desk.specs.Gives.{GaveFront}
use Rattle.cnf_core.specs.Formulas.{Cnf}
use Rattle.bone_check.specs.declared.verdict.Verdict.{Verdict}
use Rattle.bone_check.specs.declared.verdict.CheckEnd.{CheckEnd}
use Rattle.bone_check.specs.declared.verdict.CheckEnd.TheVariants as check
use Rattle.bone_check.specs.Checks.{ChecksAll}
use Rattle.backbone_main.specs.declared.ending.Ending.{Ending}
use Rattle.backbone_main.specs.declared.ending.Ending.TheVariants.{Judged, OutOfMemory, TooLong, Failed}
use Rattle.backbone_main.specs.Verdicts.{verdict_text}

-- the verdict was written, or a front of it
abbrev pub IsWritten : Verdict → Ending → Told → Told → Type 0
IsWritten verdict ending old new =
    ((ending ≡ Judged verdict) × Gave port.Answer (verdict_text verdict) old new)
    ⊎ ((ending ≡ Failed (Write port.Answer)) × GaveFront port.Answer (verdict_text verdict) old new × Rose (Write port.Answer) old new)

pub record IsTold (verdict : Verdict) (ending : Ending) (old new : Told) : Type 0 where
  pub written : IsWritten verdict ending old new
  pub only : WritesOnly port.Answer old new

-- how a run ends without a verdict
abbrev pub end_of : CheckEnd → Ending
end_of (check.Fault f) = Failed (Read f)
end_of (check.TooLong f) = TooLong f
end_of check.Memory = OutOfMemory

abbrev pub IsConcluded : Result Verdict CheckEnd → Ending → Told → Told → Type 0
IsConcluded (Ok verdict) ending old new = IsTold verdict ending old new
IsConcluded (Err end) ending old new = (ending ≡ end_of end) × (new ≡ old)

-- the files were judged, and then the verdict was written, if there is one
pub record IsJudged (F : Cnf) (witness : Bool) (ending : Ending) (old new : Told) : Type 0 where
  pub middle : Told
  pub result : Result Verdict CheckEnd
  pub checks : ChecksAll F witness old middle result
  pub concludes : IsConcluded result ending middle new
