-- The statements of the laws on answers and their texts.
use Rattle.std.specs.Prelude.{◌≡◌, ◌≤◌, ◌^◌, ℕ, List, Ok}
use Rattle.cnf_core.specs.Literals.{AreWithin}
use Rattle.answer_text.specs.declared.answer.Answer.{Answer}
use Rattle.answer_text.specs.declared.answer.Answer.TheVariants.{Unsat, Sat, Partial, Unknown}
use Rattle.answer_text.specs.AnswerText.{text_of, IsInOrder}
use Rattle.answer_text.specs.Reading.{Read, reading_of}
use Rattle.answer_text.specs.Answers.{Says}

-- the answer's literals have variables from 1 to `vars`
abbrev pub IsWithinVars : ℕ → Answer → Type 0
IsWithinVars vars Unsat = Unit {0}
IsWithinVars vars (Sat fixed) = AreWithin vars fixed.items
IsWithinVars vars (Partial fixed still) = AreWithin vars fixed.items × AreWithin vars still.items
IsWithinVars vars Unknown = Unit {0}

-- the text says this answer
pub record ReadsBack (vars : ℕ) (text : List ℕ) (answer : Answer) : Type 0 where
  pub read : Read
  pub reading : reading_of vars text ≡ Ok read
  pub says : Says read answer

-- the text of an answer in order reads back as that answer
abbrev pub TextsReadBack : Type 0
TextsReadBack = (vars : ℕ) (answer : Answer) → vars ≤ 2 ^ 20 → IsInOrder answer → IsWithinVars vars answer → ReadsBack vars (text_of answer) answer

-- what a text that is an answer's has
pub record IsTextOf (vars : ℕ) (text : List ℕ) (answer : Answer) : Type 0 where
  pub spelled : text ≡ text_of answer
  pub order : IsInOrder answer
  pub within : IsWithinVars vars answer

-- what reads as an answer is its text, and the answer is in order
abbrev pub ReadIsText : Type 0
ReadIsText = (vars : ℕ) (text : List ℕ) (answer : Answer) → vars ≤ 2 ^ 20 → ReadsBack vars text answer → IsTextOf vars text answer
