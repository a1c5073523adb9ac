use Rattle.watch_lists.specs.Watching.{IsReady}
use Rattle.watch_lists.proofs.tests.descend.Given as goal

abbrev pub invariant-loop-decision : goal.invariant-loop-decision
invariant-loop-decision g l = IsReady l.arena l.watches l.trail
