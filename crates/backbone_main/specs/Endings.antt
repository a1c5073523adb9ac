-- How a run ends: its status, and which act may have failed.
use Rattle.std.specs.Prelude.{◌≢◌, ℕ, IsTrue}
use Rattle.bone_desk.specs.declared.desk.Act.{Act}
use Rattle.bone_desk.specs.declared.desk.Act.TheVariants.{OpenFeed, OpenPort, Read, Write}
use Rattle.bone_desk.specs.declared.desk.Port.TheVariants as port
use Rattle.backbone_main.specs.declared.ending.Ending.{Ending}
use Rattle.backbone_main.specs.declared.ending.Ending.TheVariants.{Complete, Unsatisfiable, Unfinished, Unknown, Sampled, Judged, OutOfMemory, BadText, TooLong}
use Rattle.backbone_main.specs.declared.ending.Ending.TheVariants.{Failed, Usage}
use Rattle.backbone_main.specs.Causes.{Acts}
use Rattle.backbone_main.specs.Verdicts.{verdict_code}

-- the status where an act failed
abbrev pub failure_code : Act → ℕ
failure_code (Read f) = 60
failure_code (Write p) = 61
failure_code (OpenFeed f) = 62
failure_code (OpenPort p) = 62

-- the status of an ending
abbrev pub code_of : Ending → ℕ
code_of Complete = 10
code_of Unsatisfiable = 20
code_of Unfinished = 30
code_of Unknown = 31
code_of Sampled = 0
code_of (Judged verdict) = verdict_code verdict
code_of OutOfMemory = 40
code_of (BadText fault) = 50
code_of (TooLong f) = 51
code_of (Failed act) = failure_code act
code_of Usage = 64

-- the call may make the act, and it isn't the writing of its note
pub record IsOwnAct (may : Acts) (act : Act) : Type 0 where
  pub used : IsTrue (may act)
  pub no_note : act ≢ Write port.Notes

-- where an act failed, or too much was read by one, it was the call's own
abbrev pub IsItsOwn : Acts → Ending → Type 0
IsItsOwn may (Failed act) = IsOwnAct may act
IsItsOwn may (TooLong f) = IsTrue (may (Read f))
IsItsOwn may ending = Unit {0}
