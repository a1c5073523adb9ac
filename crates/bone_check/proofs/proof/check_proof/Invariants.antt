use Rattle.std.proofs.Common.{ℕ, ◌-◌, ◌^◌, List}
use Rattle.text_lines.specs.Lines as text
use Rattle.lrat_lines.specs.declared.line.Line.{Line}
use Rattle.bone_check.proofs.Proved.{IsChecking}
use Rattle.bone_check.proofs.proof.check_proof.Given as goal

-- the lines so far are taken
abbrev pub invariant-loop-more : goal.invariant-loop-more
invariant-loop-more g l =
    (came : List ℕ) × (done : List text.Line) × (taken : List Line)
    × IsChecking l.formula (g.D.Desk.told l.fn.desk) (g.D.Desk.told l.desk) l.lines l.checker l.line came done taken

abbrev pub decreases-loop-more : goal.decreases-loop-more
decreases-loop-more g l = 2 ^ 45 - l.line
