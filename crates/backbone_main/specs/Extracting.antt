-- What `extract` does, by how it ends, and which statuses a cause leaves.
use Rattle.std.specs.Prelude.{◌≡◌, ◌≢◌, ◌≤◌, ◌⊎◌, ℕ, IsTrue, List, [], ◌∷◌, false, true, is_some, Ok, Err}
use Rattle.bone_desk.specs.declared.desk.Feed.TheVariants as feed
use Rattle.bone_desk.specs.declared.desk.Port.{Port}
use Rattle.bone_desk.specs.declared.desk.Port.TheVariants as port
use Rattle.bone_desk.specs.declared.desk.Act.{Act}
use Rattle.bone_desk.specs.declared.desk.Act.TheVariants.{OpenFeed, OpenPort, Read, Write}
use Rattle.bone_desk.specs.Told.{Told, Rose, Gave}
use Rattle.bone_desk.specs.Gives.{GaveFront}
use Rattle.cnf_core.specs.Formulas.{Cnf}
use Rattle.dimacs_reader.specs.declared.fault.Fault.{Fault}
use Rattle.dimacs_reader.specs.Feeds.{IsTooLong}
use Rattle.lrat_log.specs.Laws.{enough}
use Rattle.bone_words.specs.Settings.{Extraction}
use Rattle.bone_check.specs.declared.verdict.Verdict.TheVariants.{Verified}
use Rattle.bone_check.specs.Verdicts.{verdict_of}
use Rattle.backbone_main.specs.declared.task.Files.{Files}
use Rattle.backbone_main.specs.declared.ending.Ending.{Ending}
use Rattle.backbone_main.specs.declared.ending.Ending.TheVariants.{Complete, Unsatisfiable, Unfinished, Unknown, OutOfMemory, BadText, TooLong, Failed}
use Rattle.backbone_main.specs.Causes.{Acts, FailsToOpen, FailsToRead, FindsTooLong, IsGiven, IsOneOf, IsTaken, Means, ReadsAndWrites, RefusesText, WritesNothing}
use Rattle.backbone_main.specs.Texts.{Texts, text_for, TextsSay}

-- which files are wanted beside the answer
abbrev pub files_of : Extraction → Files
files_of e = record { proof = is_some e.proof; witness = is_some e.witness }

-- the text is opened and read, the files that are named are opened and written, the answer and the notes are written
abbrev pub extract_uses : Extraction → Acts
extract_uses e (OpenFeed feed.Text) = true
extract_uses e (OpenFeed f) = false
extract_uses e (OpenPort port.Proof) = is_some e.proof
extract_uses e (OpenPort port.Witness) = is_some e.witness
extract_uses e (OpenPort p) = false
extract_uses e (Read feed.Text) = true
extract_uses e (Read f) = false
extract_uses e (Write port.Answer) = true
extract_uses e (Write port.Proof) = is_some e.proof
extract_uses e (Write port.Witness) = is_some e.witness
extract_uses e (Write port.Notes) = true

-- ---- what is written for a formula: first the proof, then the witness, then the answer

-- each port gained exactly what it was to get
abbrev pub GaveAll : Texts → Told → Told → Type 0
GaveAll texts old new = (p : Port) → p ≢ port.Notes → Gave p (text_for texts p) old new

-- the writing stopped at this port: it gained a front of what it was to get, those before it all, and those behind it
-- nothing
abbrev pub IsCutAt : Port → Texts → Told → Told → Type 0
IsCutAt port.Proof texts old new =
    GaveFront port.Proof texts.proof old new × (new.put port.Witness ≡ old.put port.Witness) × (new.put port.Answer ≡ old.put port.Answer)
IsCutAt port.Witness texts old new =
    Gave port.Proof texts.proof old new × GaveFront port.Witness texts.witness old new × (new.put port.Answer ≡ old.put port.Answer)
IsCutAt port.Answer texts old new =
    Gave port.Proof texts.proof old new × Gave port.Witness texts.witness old new × GaveFront port.Answer texts.answer old new
IsCutAt port.Notes texts old new = ⊥

-- where it stops by an ending: where a write fails at its port, and only the proof is written with memory
abbrev pub StopsWhere : Texts → Ending → Told → Told → Type 0
StopsWhere texts OutOfMemory old new = IsCutAt port.Proof texts old new
StopsWhere texts (Failed (Write p)) old new = IsCutAt p texts old new × Rose (Write p) old new
StopsWhere texts ending old new = ⊥

-- a check of the texts, as they are read back, verifies them
abbrev pub IsVerified : Cnf → Texts → Type 0
IsVerified F texts = verdict_of F texts.answer texts.proof texts.witness ≡ Verified

-- which texts a check verifies, by the ending: a backbone with both files, and that there is no model with the proof
abbrev pub IsCertified : Files → Ending → Cnf → Texts → Type 0
IsCertified files Complete F texts = IsTrue files.proof → IsTrue files.witness → IsVerified F texts
IsCertified files Unsatisfiable F texts = IsTrue files.proof → IsVerified F texts
IsCertified files ending F texts = Unit {0}

-- all was written that the ending says
pub record WritesAll (workers budget : ℕ) (files : Files) (ending : Ending) (F : Cnf) (old new : Told) : Type 0 where
  pub texts : Texts
  pub say : TextsSay workers budget files ending F texts
  pub gave : GaveAll texts old new
  pub certified : IsCertified files ending F texts

-- the writing stopped by the ending, and was to be what some ending says
pub record Stops (workers budget : ℕ) (files : Files) (ending : Ending) (F : Cnf) (old new : Told) : Type 0 where
  pub texts : Texts
  pub intended : Ending
  pub say : TextsSay workers budget files intended F texts
  pub stop : StopsWhere texts ending old new

-- ---- the account

-- an act failed
abbrev pub Fails : ℕ → ℕ → Files → Act → Told → Told → Type 0
Fails workers budget files (OpenFeed f) old new = FailsToOpen (OpenFeed f) old new
Fails workers budget files (OpenPort p) old new = FailsToOpen (OpenPort p) old new
Fails workers budget files (Read feed.Text) old new = FailsToRead old new
Fails workers budget files (Read f) old new = ⊥
Fails workers budget files (Write p) old new = ReadsAndWrites (Stops workers budget files (Failed (Write p))) old new

-- there was too little memory: nothing was written, or the known part of the backbone, or a front of the proof
abbrev pub LacksMemory : ℕ → ℕ → Files → Told → Told → Type 0
LacksMemory workers budget files old new =
    WritesNothing old new
    ⊎ (ReadsAndWrites (WritesAll workers budget files OutOfMemory) old new
    ⊎ ReadsAndWrites (Stops workers budget files OutOfMemory) old new)

-- what a run with so many workers, of which each may learn so many clauses, did with these files wanted, by its ending
abbrev pub ExtractAccounts : ℕ → ℕ → Files → Ending → Told → Told → Type 0
ExtractAccounts workers budget files Complete old new = ReadsAndWrites (WritesAll workers budget files Complete) old new
ExtractAccounts workers budget files Unsatisfiable old new = ReadsAndWrites (WritesAll workers budget files Unsatisfiable) old new
ExtractAccounts workers budget files Unfinished old new = ReadsAndWrites (WritesAll workers budget files Unfinished) old new
ExtractAccounts workers budget files Unknown old new = ReadsAndWrites (WritesAll workers budget files Unknown) old new
ExtractAccounts workers budget files OutOfMemory old new = LacksMemory workers budget files old new
ExtractAccounts workers budget files (BadText fault) old new = RefusesText fault old new
ExtractAccounts workers budget files (TooLong feed.Text) old new = FindsTooLong old new
ExtractAccounts workers budget files (Failed act) old new = Fails workers budget files act old new
ExtractAccounts workers budget files ending old new = ⊥

-- ---- which statuses a cause leaves; want of memory is always left

pub record Extracts (e : Extraction) (number : ℕ) (old new : Told) : Type 0 where
  pub long : (text : List ℕ) → IsGiven (extract_uses e) text old new → IsTooLong text → IsOneOf number (51 ∷ 40 ∷ [])
  pub bad : (text : List ℕ) (fault : Fault) → IsGiven (extract_uses e) text old new → Means text (Err fault)
      → IsOneOf number (50 ∷ 40 ∷ [])
  pub answered : (text : List ℕ) (F : Cnf) → IsGiven (extract_uses e) text old new → Means text (Ok F)
      → IsTaken (extract_uses e) old new → IsOneOf number (10 ∷ 20 ∷ 30 ∷ 31 ∷ 40 ∷ [])
  pub bound : (text : List ℕ) (F : Cnf) → IsGiven (extract_uses e) text old new → Means text (Ok F)
      → IsTaken (extract_uses e) old new → enough F.vars ≤ e.budget → IsOneOf number (10 ∷ 20 ∷ 40 ∷ [])
