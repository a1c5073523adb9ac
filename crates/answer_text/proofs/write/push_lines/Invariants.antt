-- The lines of the literals so far are on their way.
use Rattle.std.proofs.Common.{take}
use Rattle.bone_desk.specs.Gives.{Pushed}
use Rattle.answer_text.specs.AnswerText.{literal_lines}
use Rattle.answer_text.proofs.write.push_lines.Given as goal

abbrev pub invariant-loop-lit : goal.invariant-loop-lit
invariant-loop-lit g l =
    Pushed (literal_lines l.letter (take l.lit-index l.lits)) l.fn.buffer l.buffer
    (g.D.Desk.told l.fn.desk) (g.D.Desk.told l.desk)
