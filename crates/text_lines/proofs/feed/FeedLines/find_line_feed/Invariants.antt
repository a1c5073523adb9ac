use Rattle.text_lines.specs.Steps.Onward.{reads_left}
use Rattle.text_lines.proofs.Onward.{IsSeeking}
use Rattle.text_lines.proofs.feed.FeedLines.find_line_feed.Given as goal

abbrev pub invariant-loop-place : goal.invariant-loop-place
invariant-loop-place g l = IsSeeking (g.D.Desk.told l.fn.desk) (g.D.Desk.told l.desk) l.fn.self l.self l.seen

abbrev pub decreases-loop-place : goal.decreases-loop-place
decreases-loop-place g l = reads_left l.self
