-- The tests of a proof's lines, and of what the proof has to reach.
use Rattle.std.specs.Prelude.{ℕ, ◌==◌, ◌&&◌, Bool, true, false, if◌then◌else◌, List, [], ◌∷◌, ◌++◌, Option, Some, None, Result, Ok, Err}
use Rattle.std.specs.List.{list_any, list_all}
use Rattle.cnf_core.specs.Literals.{Literal, Literals}
use Rattle.cnf_core.specs.Formulas.{Cnf, is_shown}
use Rattle.lrat_lines.specs.declared.line.Line.{Line}
use Rattle.lrat_lines.specs.declared.line.LineEnd.{LineEnd}
use Rattle.lrat_lines.specs.declared.line.LineEnd.TheVariants as read
use Rattle.lrat_lines.specs.Tokens.{is_gap}
use Rattle.lrat_lines.specs.Grammar.{line_of}
use Rattle.lrat_lines.specs.Sets.{is_same, has}
use Rattle.lrat_lines.specs.Propagation.{Refusal}
use Rattle.lrat_lines.specs.Propagation as why
use Rattle.lrat_lines.specs.Proofs.{Progress, checked, reached}
use Rattle.bone_check.specs.declared.verdict.Reason.{Reason}
use Rattle.bone_check.specs.declared.verdict.Reason.TheVariants.{BadToken, NotEnded, NegativeHint, IdNotRising, VarRange, UnknownHint, NotUnit, NoConflict, NoEmpty, NotShown, NoUnit}

-- lines of gaps alone are skipped, and those whose first byte that is no gap is the letter `c`
abbrev pub is_skipped : List ℕ → Bool
is_skipped [] = true
is_skipped (b ∷ bs) = if is_gap b then is_skipped bs else b == 99

-- why a text is no line; no text means want of memory
abbrev pub line_reason : LineEnd → Reason
line_reason read.BadToken = BadToken
line_reason read.NotEnded = NotEnded
line_reason read.NegativeHint = NegativeHint
line_reason read.Memory = BadToken

-- why a line is refused
abbrev pub refusal_reason : Refusal → Reason
refusal_reason (why.IdNotRising id) = IdNotRising
refusal_reason (why.VarRange l) = VarRange
refusal_reason (why.UnknownHint id) = UnknownHint
refusal_reason (why.NotUnit id) = NotUnit
refusal_reason why.NoConflict = NoConflict

-- the lines of a proof, if none of them is refused
abbrev pub unless_refused : List Line → Result Progress Refusal → Result (List Line) Reason
unless_refused lines (Ok progress) = Ok lines
unless_refused lines (Err refusal) = Err (refusal_reason refusal)

-- the lines so far and one more, or why it isn't taken
abbrev pub with_line : Cnf → List Line → Result Line LineEnd → Result (List Line) Reason
with_line F lines (Ok line) = unless_refused (lines ++ line ∷ []) (checked F (lines ++ line ∷ []))
with_line F lines (Err end) = Err (line_reason end)

-- the lines so far and what one more line of the text says, or why it isn't taken
abbrev pub after_text : Cnf → List Line → List ℕ → Result (List Line) Reason
after_text F lines text = if is_skipped text then Ok lines else with_line F lines (line_of text)

-- whether the set has the literal, and no other
abbrev pub is_just : Literal → Literals → Bool
is_just l c = has c l && list_all (is_same l) c

abbrev pub has_none : Literals → Bool
has_none [] = true
has_none (l ∷ ls) = false

-- whether the proof reaches the literal, as a clause of its own
unfoldable pub has_unit : Cnf → List Line → Literal → Bool
has_unit F lines l = list_any (is_just l) (reached F lines)

-- whether the proof reaches the empty clause
unfoldable pub has_empty : Cnf → List Line → Bool
has_empty F lines = list_any has_none (reached F lines)

-- why a printed literal doesn't pass
abbrev pub unit_fault : Cnf → List Line → Literal → Option Reason
unit_fault F lines l = if is_shown F l.var then (if has_unit F lines l then None else Some NoUnit) else Some NotShown

-- why there is said to be no model, and the proof doesn't show it
abbrev pub empty_fault : Cnf → List Line → Option Reason
empty_fault F lines = if has_empty F lines then None else Some NoEmpty
