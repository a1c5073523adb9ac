-- The line that tells a verdict.
use Rattle.std.specs.Prelude.{ℕ, List, ◌++◌, codes, decimal}
use Rattle.bone_check.specs.declared.verdict.Reason.{Reason}
use Rattle.bone_check.specs.declared.verdict.Reason.TheVariants as reason
use Rattle.bone_check.specs.declared.verdict.Verdict.{Verdict}
use Rattle.bone_check.specs.declared.verdict.Verdict.TheVariants.{Verified, NotVerified}

-- the word for a reason
abbrev pub reason_name : Reason → List ℕ
reason_name reason.BadLine = codes "BadLine"
reason_name reason.NotSorted = codes "NotSorted"
reason_name reason.Unfinished = codes "Unfinished"
reason_name reason.BadToken = codes "BadToken"
reason_name reason.NotEnded = codes "NotEnded"
reason_name reason.NegativeHint = codes "NegativeHint"
reason_name reason.IdNotRising = codes "IdNotRising"
reason_name reason.VarRange = codes "VarRange"
reason_name reason.UnknownHint = codes "UnknownHint"
reason_name reason.NotUnit = codes "NotUnit"
reason_name reason.NoConflict = codes "NoConflict"
reason_name reason.NoEmpty = codes "NoEmpty"
reason_name reason.NotShown = codes "NotShown"
reason_name reason.NoUnit = codes "NoUnit"
reason_name reason.WitnessLine = codes "WitnessLine"
reason_name reason.NoModel = codes "NoModel"
reason_name reason.NotAModel = codes "NotAModel"
reason_name reason.NotAgainst = codes "NotAgainst"
reason_name reason.NotCovered = codes "NotCovered"

-- what the Answer port gets
abbrev pub verdict_text : Verdict → List ℕ
verdict_text Verified = codes "verified\n"
verdict_text (NotVerified reason place) =
    (codes "not verified: " ++ reason_name reason) ++ (codes " at " ++ decimal place) ++ codes "\n"

-- the status
abbrev pub verdict_code : Verdict → ℕ
verdict_code Verified = 0
verdict_code (NotVerified reason place) = 1
