-- What a call may do outside for what its words ask for.
use Rattle.std.specs.Prelude.{ℕ, true, false, Option, Some, None}
use Rattle.bone_desk.specs.declared.desk.Port.TheVariants as port
use Rattle.bone_desk.specs.declared.desk.Act.TheVariants.{Write}
use Rattle.bone_words.specs.Settings.{Wanted, to_extract, to_check, to_sample}
use Rattle.backbone_main.specs.Causes.{Acts}
use Rattle.backbone_main.specs.Extracting.{extract_uses}
use Rattle.backbone_main.specs.Checking.{check_uses}
use Rattle.backbone_main.specs.Sampling.{sample_uses}

-- the notes are written, and nothing else is done
abbrev pub notes_alone : Acts
notes_alone (Write port.Notes) = true
notes_alone act = false

-- the acts that a call may make
abbrev pub uses : Option Wanted → Acts
uses None act = notes_alone act
uses (Some (to_extract e)) act = extract_uses e act
uses (Some (to_check c)) act = check_uses c act
uses (Some (to_sample s)) act = sample_uses act

-- how many workers the words ask for; 0 where none are asked for
abbrev pub workers_of : Option Wanted → ℕ
workers_of None = 0
workers_of (Some (to_extract e)) = e.workers
workers_of (Some (to_check c)) = 0
workers_of (Some (to_sample s)) = s.workers
