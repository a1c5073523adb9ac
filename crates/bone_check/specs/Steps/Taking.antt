-- What a line of a proof's text does to a checker.
use Rattle.std.specs.Prelude.{◌≡◌, ℕ, List, [], ◌∷◌, ◌++◌, Result, Ok, Err}
use Rattle.cnf_core.specs.Formulas.{Cnf}
use Rattle.lrat_lines.specs.declared.line.Line.{Line}
use Rattle.lrat_lines.specs.declared.line.LineEnd.{LineEnd}
use Rattle.lrat_lines.specs.declared.line.LineEnd.TheVariants as read
use Rattle.lrat_lines.specs.Proofs.{checked}
use Rattle.lrat_checker.specs.declared.refused.Refused.{Refused}
use Rattle.lrat_checker.specs.declared.refused.Refused.TheVariants as refused
use Rattle.lrat_checker.specs.Checking.{Kept, StandsFor}
use Rattle.bone_check.specs.declared.verdict.Reason.TheVariants.{BadToken, NotEnded, NegativeHint, IdNotRising, VarRange, UnknownHint, NotUnit, NoConflict}
use Rattle.bone_check.specs.declared.line.Untaken.{Untaken}
use Rattle.bone_check.specs.declared.line.Untaken.TheVariants.{Fails, Memory}
use Rattle.bone_check.specs.Proving.{unless_refused, after_text}

-- why a text is no line
abbrev pub untaken_end : LineEnd → Untaken
untaken_end read.BadToken = Fails BadToken
untaken_end read.NotEnded = Fails NotEnded
untaken_end read.NegativeHint = Fails NegativeHint
untaken_end read.Memory = Memory

-- why a line is refused
abbrev pub untaken_refusal : Refused → Untaken
untaken_refusal (refused.IdNotRising id) = Fails IdNotRising
untaken_refusal (refused.VarRange number) = Fails VarRange
untaken_refusal (refused.UnknownHint id) = Fails UnknownHint
untaken_refusal (refused.NotUnit id) = Fails NotUnit
untaken_refusal refused.NoConflict = Fails NoConflict
untaken_refusal refused.Memory = Memory

-- what the answer to a line says, where the checker stood for those before it
abbrev pub LineSays : Cnf → List Line → Line → Kept → Result (Unit {0}) Untaken → Type 0
LineSays F lines line new (Ok done) = StandsFor new F (lines ++ line ∷ [])
LineSays F lines line new (Err (Fails reason)) =
    unless_refused (lines ++ line ∷ []) (checked F (lines ++ line ∷ [])) ≡ Err reason
LineSays F lines line new (Err Memory) = Unit {0}

-- the lines that the text leads to, for which the checker stands
pub record Leads (F : Cnf) (lines : List Line) (text : List ℕ) (new : Kept) : Type 0 where
  pub after : List Line
  pub leads : after_text F lines text ≡ Ok after
  pub stands : StandsFor new F after

-- what the answer to a line's text says, where the checker stood for these lines
abbrev pub TextSays : Cnf → List Line → List ℕ → Kept → Result (Unit {0}) Untaken → Type 0
TextSays F lines text new (Ok done) = Leads F lines text new
TextSays F lines text new (Err (Fails reason)) = after_text F lines text ≡ Err reason
TextSays F lines text new (Err Memory) = Unit {0}

-- the same of all lines for which the checker stood
pub record TakesText (text : List ℕ) (old new : Kept) (result : Result (Unit {0}) Untaken) : Type 0 where
  pub says : (F : Cnf) (lines : List Line) → StandsFor old F lines → TextSays F lines text new result
