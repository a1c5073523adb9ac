use Rattle.text_lines.specs.Steps.Onward.{reads_left}
use Rattle.text_lines.proofs.Draining.{IsDraining}
use Rattle.text_lines.proofs.feed.FeedLines.drain.Given as goal

abbrev pub invariant-loop-self : goal.invariant-loop-self
invariant-loop-self g l = IsDraining (g.D.Desk.told l.fn.desk) (g.D.Desk.told l.desk) l.fn.self l.self

abbrev pub decreases-loop-self : goal.decreases-loop-self
decreases-loop-self g l = reads_left l.self
