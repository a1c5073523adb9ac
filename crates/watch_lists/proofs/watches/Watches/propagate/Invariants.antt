-- Each turn propagates one entry more, and there are no more entries than variables.
use Rattle.std.proofs.Common.{◌-◌}
use Rattle.watch_lists.proofs.Turns.{IsUnderWay}
use Rattle.watch_lists.proofs.watches.Watches.propagate.Given as goal

abbrev pub invariant-loop-trail : goal.invariant-loop-trail
invariant-loop-trail l = IsUnderWay l.fn.arena l.fn.trail l.arena l.self l.trail

abbrev pub decreases-loop-trail : goal.decreases-loop-trail
decreases-loop-trail l = l.trail.vars - l.trail.gone
