-- How the text of an answer is read back: line by line, and the first line at fault decides.
use Rattle.std.specs.Prelude.{ℕ, ◌==◌, nat_lt, nat_le, Bool, true, false, ◌&&◌, if◌then◌else◌, List, [], ◌∷◌, ◌++◌, bytes_eq, codes}
use Rattle.std.specs.Prelude.{Option, Some, None, Result, Ok, Err}
use Rattle.std.specs.List.{list_any}
use Rattle.cnf_core.specs.Literals.{Literal, Literals}
use Rattle.cnf_core.specs.Spelling.{number_of_digits}
use Rattle.text_lines.specs.Lines.{Line}
use Rattle.text_lines.specs.Readings.{FaultAt, reading}
use Rattle.answer_text.specs.declared.stage.Stage.{Stage}
use Rattle.answer_text.specs.declared.stage.Stage.TheVariants as stage
use Rattle.answer_text.specs.declared.stage.LineFault.{LineFault}
use Rattle.answer_text.specs.declared.stage.LineFault.TheVariants.{Bad, NotSorted}

-- a number that is one of 0 to `vars`
abbrev pub up_to : ℕ → Option ℕ → Option ℕ
up_to vars None = None
up_to vars (Some n) = if nat_le n vars then Some n else None

abbrev pub signed_literal : Bool → Option ℕ → Option Literal
signed_literal positive None = None
signed_literal positive (Some n) = Some (record { var = n; positive = positive })

-- the variable that digits without a leading zero write
abbrev pub variable_of : ℕ → List ℕ → Option ℕ
variable_of vars [] = None
variable_of vars (d ∷ ds) = if d == 48 then None else up_to vars (number_of_digits (d ∷ ds))

-- the literal that is written so, with a variable from 1 to `vars`
abbrev pub literal_of : ℕ → List ℕ → Option Literal
literal_of vars [] = None
literal_of vars (b ∷ bs) =
    if b == 45 then signed_literal false (variable_of vars bs) else signed_literal true (variable_of vars (b ∷ bs))

-- the literal of a line with this letter: the letter, a space, and the literal
abbrev pub line_literal : ℕ → ℕ → List ℕ → Option Literal
line_literal vars letter [] = None
line_literal vars letter (a ∷ []) = None
line_literal vars letter (a ∷ b ∷ bs) = if a == letter && b == 32 then literal_of vars bs else None

-- what the lines so far say
pub record Read : Type 0 where
  -- the greatest variable that a literal may have
  pub vars : ℕ
  -- which lines may come next
  pub stage : Stage
  pub fixed : Literals
  pub still : Literals
  -- the variable of the line before in the same group, and 0 at its beginning
  pub last : ℕ

abbrev pub nothing_read : ℕ → Read
nothing_read vars = record { vars = vars; stage = stage.First; fixed = []; still = []; last = 0 }

-- the first line
abbrev pub verdict_line : Read → List ℕ → Result Read LineFault
verdict_line r bytes =
    if bytes_eq bytes (codes "s UNSATISFIABLE") then Ok (record r { stage = stage.Unsat })
    else (if bytes_eq bytes (codes "s SATISFIABLE") then Ok (record r { stage = stage.Backbone })
    else (if bytes_eq bytes (codes "s PARTIAL") then Ok (record r { stage = stage.Fixed })
    else (if bytes_eq bytes (codes "s UNKNOWN") then Ok (record r { stage = stage.Unknown }) else Err Bad)))

-- some literal has this variable
abbrev pub has_var : Literals → ℕ → Bool
has_var lits v = list_any (λ (k : Literal). k.var == v) lits

abbrev pub fixed_line : Read → Option Literal → Result Read LineFault
fixed_line r None = Err Bad
fixed_line r (Some l) =
    if nat_lt r.last l.var then Ok (record r { fixed = r.fixed ++ l ∷ []; last = l.var }) else Err NotSorted

abbrev pub still_line : Read → Option Literal → Result Read LineFault
still_line r None = Err Bad
still_line r (Some l) =
    if has_var r.fixed l.var then Err Bad
    else (if nat_lt r.last l.var then Ok (record r { still = r.still ++ l ∷ []; last = l.var }) else Err NotSorted)

-- the second group begins
abbrev pub opened : Read → Read
opened r = record r { stage = stage.Still; last = 0 }

-- a line of the first group, or the first one of the second
abbrev pub either_line : Read → List ℕ → Option Literal → Result Read LineFault
either_line r bytes (Some l) = fixed_line r (Some l)
either_line r bytes None = still_line (opened r) (line_literal r.vars 117 bytes)

-- the end line, or another
abbrev pub end_or : Read → Stage → List ℕ → Result Read LineFault → Result Read LineFault
end_or r over bytes other = if bytes_eq bytes (codes "b 0") then Ok (record r { stage = over }) else other

abbrev pub line_at : Stage → Read → List ℕ → Result Read LineFault
line_at stage.First r bytes = verdict_line r bytes
line_at stage.Backbone r bytes = end_or r stage.Sat bytes (fixed_line r (line_literal r.vars 98 bytes))
line_at stage.Fixed r bytes = end_or r stage.Partial bytes (either_line r bytes (line_literal r.vars 98 bytes))
line_at stage.Still r bytes = end_or r stage.Partial bytes (still_line r (line_literal r.vars 117 bytes))
line_at stage.Unsat r bytes = Err Bad
line_at stage.Sat r bytes = Err Bad
line_at stage.Partial r bytes = Err Bad
line_at stage.Unknown r bytes = Err Bad

-- one line more, which ends with a line feed
abbrev pub line_read : Read → Line → Result Read LineFault
line_read r l = if l.ended then line_at r.stage r l.bytes else Err Bad

-- what is wrong where the text ends
abbrev pub end_at : Stage → Option LineFault
end_at stage.First = Some Bad
end_at stage.Backbone = Some Bad
end_at stage.Fixed = Some Bad
end_at stage.Still = Some Bad
end_at stage.Unsat = None
end_at stage.Sat = None
end_at stage.Partial = None
end_at stage.Unknown = None

abbrev pub end_read : Read → Option LineFault
end_read r = end_at r.stage

-- what a text says, over the variables 1 to `vars`, or its first line at fault
abbrev pub reading_of : ℕ → List ℕ → Result Read (FaultAt LineFault)
reading_of vars text = reading line_read end_read (nothing_read vars) text
