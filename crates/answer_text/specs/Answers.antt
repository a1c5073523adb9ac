-- What came of the feed with the answer, and what was read of it.
use Rattle.std.specs.Prelude.{◌≡◌, ◌^◌, ℕ, List, Result, Ok, Err}
use Rattle.bone_desk.specs.Told.{Told}
use Rattle.bone_desk.specs.declared.desk.Feed.TheVariants as feed
use Rattle.text_lines.specs.Feeds.{Came, CameWhole, IsReadFault, IsTooLong}
use Rattle.answer_text.specs.declared.answer.Answer.{Answer}
use Rattle.answer_text.specs.declared.answer.Answer.TheVariants.{Unsat, Sat, Partial, Unknown}
use Rattle.answer_text.specs.declared.stage.Stage.TheVariants as stage
use Rattle.answer_text.specs.declared.stage.LineFault.{LineFault}
use Rattle.answer_text.specs.declared.stage.LineFault.TheVariants as line
use Rattle.answer_text.specs.declared.read.AnswerEnd.{AnswerEnd}
use Rattle.answer_text.specs.declared.read.AnswerEnd.TheVariants.{Fault, TooLong, BadLine, NotSorted, Memory}
use Rattle.answer_text.specs.Reading.{Read, reading_of}

-- the lines so far are those of this answer
abbrev pub Says : Read → Answer → Type 0
Says r Unsat = r.stage ≡ stage.Unsat
Says r (Sat fixed) = (r.stage ≡ stage.Sat) × (r.fixed ≡ fixed.items)
Says r (Partial fixed still) = (r.stage ≡ stage.Partial) × (r.fixed ≡ fixed.items) × (r.still ≡ still.items)
Says r Unknown = r.stage ≡ stage.Unknown

-- the whole text came, and says this
pub record IsReadAs (vars : ℕ) (new : Told) (text : List ℕ) (answer : Answer) : Type 0 where
  pub came : CameWhole feed.Answer (2 ^ 27) new text
  pub read : Read
  pub reading : reading_of vars text ≡ Ok read
  pub says : Says read answer

-- the whole text came, and this is its first line at fault
pub record IsFaulty (vars : ℕ) (new : Told) (text : List ℕ) (line : ℕ) (fault : LineFault) : Type 0 where
  pub came : CameWhole feed.Answer (2 ^ 27) new text
  pub reading : reading_of vars text ≡ Err (record { line = line; fault = fault })

-- what each end says of the bytes that came
abbrev pub Ends : ℕ → Told → Told → List ℕ → Result Answer AnswerEnd → Type 0
Ends vars old new text (Ok answer) = IsReadAs vars new text answer
Ends vars old new text (Err Fault) = IsReadFault feed.Answer (2 ^ 27) old new text
Ends vars old new text (Err TooLong) = IsTooLong (2 ^ 27) text
Ends vars old new text (Err (BadLine n)) = IsFaulty vars new text n line.Bad
Ends vars old new text (Err (NotSorted n)) = IsFaulty vars new text n line.NotSorted
Ends vars old new text (Err Memory) = Unit {0}

-- the bytes that came of the feed, and what the end says of them
pub record ReadsAnswer (vars : ℕ) (old new : Told) (result : Result Answer AnswerEnd) : Type 0 where
  pub text : List ℕ
  pub came : Came feed.Answer old new text
  pub ends : Ends vars old new text result
