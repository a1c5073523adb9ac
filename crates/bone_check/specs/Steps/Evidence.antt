-- What came of the feed with the witness, if it is asked for, and what is said of it.
use Rattle.std.specs.Prelude.{◌≡◌, ℕ, ◌≤◌, ◌<◌, ◌^◌, Bool, true, false, List, [], length, IsOk, Result, Ok, Err}
use Rattle.bone_desk.specs.Told.{Told, AtEnd}
use Rattle.bone_desk.specs.declared.desk.Feed.TheVariants as feed
use Rattle.text_lines.specs.Feeds.{Came, IsReadFault, IsTooLong}
use Rattle.text_lines.specs.Readings.{FaultAt}
use Rattle.witness_text.specs.Reading.{Witnessed, none_read}
use Rattle.witness_text.specs.Texts.{witness_reading, told_by}
use Rattle.witness_text.specs.Told.{IsWitness}
use Rattle.cnf_core.specs.Literals.{Literals}
use Rattle.cnf_core.specs.Formulas.{Cnf}
use Rattle.bone_check.specs.declared.verdict.Verdict.{Verdict}
use Rattle.bone_check.specs.Verdicts.{evidence_verdict}
use Rattle.bone_check.specs.declared.verdict.CheckEnd.{CheckEnd}
use Rattle.bone_check.specs.declared.verdict.CheckEnd.TheVariants.{Fault, TooLong, Memory}
use Rattle.bone_check.specs.declared.evidence.Evidence.{Evidence}
use Rattle.bone_check.specs.declared.evidence.Evidence.TheVariants.{Unasked, Tells, BadLine}

abbrev pub witness_limit : ℕ
witness_limit = 2 ^ 45

-- the whole witness came
pub record IsWhole (new : Told) (text : List ℕ) : Type 0 where
  pub within : length text ≤ witness_limit
  pub whole : AtEnd feed.Witness new

-- what was read of it
abbrev pub reading_told : ℕ → Evidence → Result Witnessed (FaultAt (Unit {0}))
reading_told n Unasked = Ok (none_read n)
reading_told n (Tells w) = Ok (told_by n w)
reading_told n (BadLine line) = Err (record { line = line; fault = tt })

-- the evidence is what the text means
pub record IsEvidenceOf (n : ℕ) (witness : Bool) (new : Told) (text : List ℕ) (evidence : Evidence) : Type 0 where
  pub reading : witness_reading n text ≡ reading_told n evidence
  pub whole : witness ≡ true → IsWhole new text

abbrev pub EvidenceSays : ℕ → Bool → Told → Told → List ℕ → Result Evidence CheckEnd → Type 0
EvidenceSays n witness old new text (Ok evidence) = IsEvidenceOf n witness new text evidence
EvidenceSays n witness old new text (Err (Fault f)) = (f ≡ feed.Witness) × IsReadFault feed.Witness witness_limit old new text
EvidenceSays n witness old new text (Err (TooLong f)) = (f ≡ feed.Witness) × IsTooLong witness_limit text
EvidenceSays n witness old new text (Err Memory) = Unit {0}

-- nothing is done where it isn't asked for
pub record IsUnasked (old new : Told) (text : List ℕ) (result : Result Evidence CheckEnd) : Type 0 where
  pub none : text ≡ []
  pub same : new ≡ old
  pub fine : IsOk result

pub record ReadsEvidence (n : ℕ) (witness : Bool) (old new : Told) (result : Result Evidence CheckEnd) : Type 0 where
  pub text : List ℕ
  pub unasked : witness ≡ false → IsUnasked old new text result
  pub came : Came feed.Witness old new text
  pub answer : EvidenceSays n witness old new text result

-- what is told is a witness
abbrev pub IsReadEvidence : ℕ → Evidence → Type 0
IsReadEvidence n Unasked = Unit {0}
IsReadEvidence n (Tells w) = IsWitness n (told_by n w)
IsReadEvidence n (BadLine line) = Unit {0}

-- the verdict on the evidence, or want of memory
abbrev pub JudgesEvidence : Cnf → Literals → Evidence → Result Verdict CheckEnd → Type 0
JudgesEvidence F fixed evidence (Ok verdict) = verdict ≡ evidence_verdict F fixed (reading_told F.vars evidence)
JudgesEvidence F fixed evidence (Err Memory) = Unit {0}
JudgesEvidence F fixed evidence (Err (Fault f)) = ⊥
JudgesEvidence F fixed evidence (Err (TooLong f)) = ⊥
