-- The trail is quiet before each decision.
use Rattle.std.proofs.Common.{◌≡◌, length}
use Rattle.watch_lists.specs.Watching.{IsReady}
use Rattle.propagation_bench.proofs.rounds.descend.Given as goal

abbrev pub invariant-loop-decision : goal.invariant-loop-decision
invariant-loop-decision l = record {
  ready : IsReady l.arena l.watches l.trail;
  quiet : l.trail.gone ≡ length l.trail.entries;
}
