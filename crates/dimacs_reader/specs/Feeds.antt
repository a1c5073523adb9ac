-- What came of the feed with the text, and what was made of it.
use Rattle.std.specs.Prelude.{◌≡◌, ℕ, ◌<◌, ◌≤◌, ◌^◌, List, length, Result, Ok, Err}
use Rattle.bone_desk.specs.Told.{Told, Took, ReadsOnly, Rose, AtEnd}
use Rattle.bone_desk.specs.declared.desk.Act.TheVariants.{Read}
use Rattle.bone_desk.specs.declared.desk.Feed.TheVariants.{Text}
use Rattle.cnf_core.specs.Formulas.{Cnf}
use Rattle.dimacs_reader.specs.declared.fault.Fault as fault
use Rattle.dimacs_reader.specs.declared.fault.ScanEnd.{ScanEnd}
use Rattle.dimacs_reader.specs.declared.fault.ScanEnd.TheVariants as scan_end
use Rattle.dimacs_reader.specs.declared.read.ReadEnd.{ReadEnd}
use Rattle.dimacs_reader.specs.declared.read.ReadEnd.TheVariants.{Fault, TooLong, Bad, Memory}
use Rattle.dimacs_reader.specs.Reading.{fault_at, reading_of}

-- these bytes came of the feed, and the call changed nothing else
pub record Came (old new : Told) (text : List ℕ) : Type 0 where
  pub took : Took Text text old new
  pub only : ReadsOnly Text old new

-- the text has more bytes than are read
abbrev pub IsTooLong : List ℕ → Type 0
IsTooLong text = 2 ^ 27 < length text

-- a read failed, before more bytes came than are read
pub record IsReadFault (old new : Told) (text : List ℕ) : Type 0 where
  pub rose : Rose (Read Text) old new
  pub limit : length text ≤ 2 ^ 27

-- the whole text came, and this is what it means
pub record IsReadAs (new : Told) (text : List ℕ) (given : Result Cnf fault.Fault) : Type 0 where
  pub limit : length text ≤ 2 ^ 27
  pub whole : AtEnd Text new
  pub reading : reading_of text ≡ given

-- what each answer says of the bytes that came
abbrev pub Answers : Told → Told → List ℕ → Result Cnf ReadEnd → Type 0
Answers old new text (Ok F) = IsReadAs new text (Ok F)
Answers old new text (Err Fault) = IsReadFault old new text
Answers old new text (Err TooLong) = IsTooLong text
Answers old new text (Err (Bad kind place)) = IsReadAs new text (fault_at kind place)
Answers old new text (Err Memory) = Unit {0}

-- the bytes that came of the feed, and what the answer says of them
pub record ReadsFormula (old new : Told) (result : Result Cnf ReadEnd) : Type 0 where
  pub text : List ℕ
  pub came : Came old new text
  pub answer : Answers old new text result

-- the answer where a scan ends so
abbrev pub read_end_of : ScanEnd → ReadEnd
read_end_of (scan_end.Bad kind place) = Bad kind place
read_end_of scan_end.Memory = Memory
