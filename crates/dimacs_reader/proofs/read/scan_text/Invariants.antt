use Rattle.std.proofs.Common.{List, ℕ}
use Rattle.dimacs_reader.proofs.Collecting.{Collected}
use Rattle.dimacs_reader.proofs.read.scan_text.Given as goal

abbrev pub invariant-loop-count : goal.invariant-loop-count
invariant-loop-count g l =
    (text : List ℕ) × Collected (g.D.Desk.told l.fn.desk) (g.D.Desk.told l.desk) l.scan l.room text

abbrev pub decreases-loop-count : goal.decreases-loop-count
decreases-loop-count g l = l.room
