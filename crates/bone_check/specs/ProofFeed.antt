-- What came of the feed with the proof, and what is said of it.
use Rattle.std.specs.Prelude.{◌≡◌, ℕ, ◌≤◌, ◌^◌, List, ◌++◌, length, Some, Result, Ok, Err}
use Rattle.bone_desk.specs.Told.{Told, AtEnd}
use Rattle.bone_desk.specs.declared.desk.Feed.{Feed}
use Rattle.bone_desk.specs.declared.desk.Feed.TheVariants as feed
use Rattle.cnf_core.specs.Formulas.{Cnf}
use Rattle.lrat_lines.specs.declared.line.Line.{Line}
use Rattle.lrat_checker.specs.Checking.{Kept, StandsFor}
use Rattle.text_lines.specs.Feeds.{Came, IsReadFault, IsTooLong}
use Rattle.bone_check.specs.declared.verdict.Reason.{Reason}
use Rattle.bone_check.specs.declared.verdict.CheckEnd.{CheckEnd}
use Rattle.bone_check.specs.declared.verdict.CheckEnd.TheVariants.{Fault, TooLong, Memory}
use Rattle.bone_check.specs.declared.proof.ProofEnd.{ProofEnd}
use Rattle.bone_check.specs.declared.proof.ProofEnd.TheVariants.{Taken, Fails}
use Rattle.bone_check.specs.Verdicts.{proof_reading}

-- how many bytes a proof may have
abbrev pub proof_limit : ℕ
proof_limit = 2 ^ 45

-- what the feed still has, where that is told
abbrev pub IsLeft : Feed → Told → List ℕ → Type 0
IsLeft feed told rest = told.left feed ≡ Some rest

-- the whole proof came, and was taken
pub record IsTaken (F : Cnf) (new : Told) (text : List ℕ) (kept : Kept) : Type 0 where
  pub within : length text ≤ proof_limit
  pub whole : AtEnd feed.Proof new
  pub lines : List Line
  pub reading : proof_reading F text ≡ Ok lines
  pub stands : StandsFor kept F lines

-- a line that came fails, whatever stands behind it
pub record IsUntaken (F : Cnf) (new : Told) (text : List ℕ) (reason : Reason) (line : ℕ) : Type 0 where
  pub within : length text ≤ proof_limit
  pub reading : (rest : List ℕ) → IsLeft feed.Proof new rest
      → proof_reading F (text ++ rest) ≡ Err (record { line = line; fault = reason })

-- what each answer says of the text that came
abbrev pub ProofSays : Cnf → Told → Told → List ℕ → Result ProofEnd CheckEnd → Type 0
ProofSays F old new text (Ok (Taken kept)) = IsTaken F new text kept
ProofSays F old new text (Ok (Fails reason line)) = IsUntaken F new text reason line
ProofSays F old new text (Err (Fault f)) = (f ≡ feed.Proof) × IsReadFault feed.Proof proof_limit old new text
ProofSays F old new text (Err (TooLong f)) = (f ≡ feed.Proof) × IsTooLong proof_limit text
ProofSays F old new text (Err Memory) = Unit {0}

-- the text that came of the feed, and what the answer says of it
pub record ReadsProof (F : Cnf) (old new : Told) (result : Result ProofEnd CheckEnd) : Type 0 where
  pub text : List ℕ
  pub came : Came feed.Proof old new text
  pub answer : ProofSays F old new text result
