use Rattle.std.proofs.Common.{◌-◌}
use Rattle.text_lines.proofs.Stepping.{IsStepping}
use Rattle.text_lines.proofs.read.read_lines.Given as goal

abbrev pub invariant-loop-lines : goal.invariant-loop-lines
invariant-loop-lines g l =
    IsStepping g.R.LineByLine.step l.fn.reader l.fn.feed l.limit (g.D.Desk.told l.fn.desk) (g.D.Desk.told l.desk) l.lines l.count l.reader

abbrev pub decreases-loop-lines : goal.decreases-loop-lines
decreases-loop-lines g l = l.limit - l.count
