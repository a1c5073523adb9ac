-- The lines so far are on their way, and have numbers that lines in memory have.
use Rattle.std.proofs.Common.{All, take}
use Rattle.bone_desk.specs.Gives.{Pushed}
use Rattle.lrat_lines.specs.Printed.{proof_text, IsInMemory}
use Rattle.lrat_lines.proofs.write.push_lines.Given as goal

abbrev pub invariant-loop-line : goal.invariant-loop-line
invariant-loop-line g l =
    Pushed (proof_text (take l.line-index l.lines)) l.fn.buffer l.buffer (g.D.Desk.told l.fn.desk) (g.D.Desk.told l.desk)
    × All IsInMemory (take l.line-index l.lines)
