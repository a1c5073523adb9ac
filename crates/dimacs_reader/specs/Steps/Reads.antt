-- What the reads of a feed leave for the scan of its text.
use Rattle.std.specs.Prelude.{◌≡◌, ℕ, ◌≤◌, ◌^◌, List, length, Option, Result, Ok, Err}
use Rattle.bone_desk.specs.Told.{Told, AtEnd}
use Rattle.bone_desk.specs.declared.desk.Feed.TheVariants.{Text}
use Rattle.dimacs_reader.specs.declared.read.ReadEnd.{ReadEnd}
use Rattle.dimacs_reader.specs.declared.read.ReadEnd.TheVariants.{Fault, TooLong, Bad, Memory}
use Rattle.dimacs_reader.specs.Feeds.{IsReadFault, IsTooLong}
use Rattle.dimacs_reader.specs.Scans.{Stands, byte_count}
use Rattle.dimacs_reader.specs.Steps.Machine.{Scanned}

-- the scan stands for a text that isn't too long
pub record IsScanOf (scan : Option Scanned) (text : List ℕ) : Type 0 where
  pub stands : Stands scan text
  pub count : byte_count scan ≡ length text
  pub limit : length text ≤ 2 ^ 27

-- what each end of the reads says of the bytes that came
abbrev pub ScansText : Told → Told → List ℕ → Result (Option Scanned) ReadEnd → Type 0
ScansText old new text (Ok scan) = AtEnd Text new × IsScanOf scan text
ScansText old new text (Err Fault) = IsReadFault old new text
ScansText old new text (Err TooLong) = IsTooLong text
ScansText old new text (Err (Bad kind place)) = ⊥
ScansText old new text (Err Memory) = Unit {0}
