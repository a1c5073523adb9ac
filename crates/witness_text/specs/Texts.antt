-- What a witness's text means, and what a reading of it answers.
use Rattle.std.specs.Prelude.{ℕ, ◌^◌, Option, Some, None, Result, Ok, Err, if◌then◌else◌, List}
use Rattle.bone_desk.specs.Told.{Told}
use Rattle.bone_desk.specs.declared.desk.Feed.TheVariants as feed
use Rattle.text_lines.specs.Lines.{Line}
use Rattle.text_lines.specs.Feeds.{Came, IsReadFault, IsTooLong}
use Rattle.text_lines.specs.Readings.{FaultAt, reading, IsReadAs}
use Rattle.witness_text.specs.declared.read.WitnessText.{WitnessText}
use Rattle.witness_text.specs.declared.read.WitnessEnd.{WitnessEnd}
use Rattle.witness_text.specs.declared.read.WitnessEnd.TheVariants.{Fault, TooLong, BadLine, Memory}
use Rattle.witness_text.specs.Reading.{Witnessed, none_read, with_line}

-- what was read, or that the line was at fault
abbrev pub or_fault : Option Witnessed → Result Witnessed (Unit {0})
or_fault None = Err tt
or_fault (Some w) = Ok w

-- one step of the reading; a line without its line feed is at fault
abbrev pub line_step : Witnessed → Line → Result Witnessed (Unit {0})
line_step w l = if l.ended then or_fault (with_line w l.bytes) else Err tt

-- a text may end behind any line
abbrev pub no_end_fault : Witnessed → Option (Unit {0})
no_end_fault w = None

-- what a text of n variables tells, or its first line at fault, from 1
abbrev pub witness_reading : ℕ → List ℕ → Result Witnessed (FaultAt (Unit {0}))
witness_reading n text = reading line_step no_end_fault (none_read n) text

-- the models and drop lines that were read of n variables
abbrev pub told_by : ℕ → WitnessText → Witnessed
told_by n w = record { vars = n; models = w.models; drops = w.drops.items }

-- how many bytes a witness may have
abbrev pub limit : ℕ
limit = 2 ^ 45

-- what each answer says of the text that came
abbrev pub Says : ℕ → Told → Told → List ℕ → Result WitnessText WitnessEnd → Type 0
Says n old new text (Ok w) = IsReadAs feed.Witness limit new text (witness_reading n text) (Ok (told_by n w))
Says n old new text (Err (BadLine line)) =
    IsReadAs feed.Witness limit new text (witness_reading n text) (Err (record { line = line; fault = tt }))
Says n old new text (Err Fault) = IsReadFault feed.Witness limit old new text
Says n old new text (Err TooLong) = IsTooLong limit text
Says n old new text (Err Memory) = Unit {0}

-- the text that came of the Witness feed, and what the answer says of it
pub record ReadsWitness (n : ℕ) (old new : Told) (result : Result WitnessText WitnessEnd) : Type 0 where
  pub text : List ℕ
  pub came : Came feed.Witness old new text
  pub answer : Says n old new text result
