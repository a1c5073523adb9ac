-- The parts of a line that the reader takes on their own.
use Rattle.std.specs.Prelude.{ℕ, if◌then◌else◌, List, bytes_eq, codes, Option, Some, None, Result, Ok, Err}
use Rattle.text_lines.specs.declared.read.TextEnd.{TextEnd}
use Rattle.text_lines.specs.declared.read.TextEnd.TheVariants as text_end
use Rattle.answer_text.specs.declared.stage.Stage.{Stage}
use Rattle.answer_text.specs.declared.stage.Stage.TheVariants as stage
use Rattle.answer_text.specs.declared.stage.LineFault.{LineFault}
use Rattle.answer_text.specs.declared.stage.LineFault.TheVariants.{Bad, NotSorted}
use Rattle.answer_text.specs.declared.read.AnswerEnd.{AnswerEnd}
use Rattle.answer_text.specs.declared.read.AnswerEnd.TheVariants as answer_end
use Rattle.answer_text.specs.Reading.{Read, fixed_line, still_line, either_line, line_literal}

-- what a verdict opens
abbrev pub verdict_stage : List ℕ → Option Stage
verdict_stage bytes =
    if bytes_eq bytes (codes "s UNSATISFIABLE") then Some stage.Unsat
    else (if bytes_eq bytes (codes "s SATISFIABLE") then Some stage.Backbone
    else (if bytes_eq bytes (codes "s PARTIAL") then Some stage.Fixed
    else (if bytes_eq bytes (codes "s UNKNOWN") then Some stage.Unknown else None)))

-- a line that is neither the first nor the end line
abbrev pub literal_at : Stage → Read → List ℕ → Result Read LineFault
literal_at stage.First r bytes = Err Bad
literal_at stage.Backbone r bytes = fixed_line r (line_literal r.vars 98 bytes)
literal_at stage.Fixed r bytes = either_line r bytes (line_literal r.vars 98 bytes)
literal_at stage.Still r bytes = still_line r (line_literal r.vars 117 bytes)
literal_at stage.Unsat r bytes = Err Bad
literal_at stage.Sat r bytes = Err Bad
literal_at stage.Partial r bytes = Err Bad
literal_at stage.Unknown r bytes = Err Bad

-- the end line
abbrev pub end_line_at : Stage → Read → Result Read LineFault
end_line_at stage.First r = Err Bad
end_line_at stage.Backbone r = Ok (record r { stage = stage.Sat })
end_line_at stage.Fixed r = Ok (record r { stage = stage.Partial })
end_line_at stage.Still r = Ok (record r { stage = stage.Partial })
end_line_at stage.Unsat r = Err Bad
end_line_at stage.Sat r = Err Bad
end_line_at stage.Partial r = Err Bad
end_line_at stage.Unknown r = Err Bad

-- the answer where a text has no meaning
abbrev pub answer_end_of : TextEnd LineFault → AnswerEnd
answer_end_of text_end.Fault = answer_end.Fault
answer_end_of text_end.TooLong = answer_end.TooLong
answer_end_of (text_end.Bad line Bad) = answer_end.BadLine line
answer_end_of (text_end.Bad line NotSorted) = answer_end.NotSorted line
answer_end_of text_end.Memory = answer_end.Memory
