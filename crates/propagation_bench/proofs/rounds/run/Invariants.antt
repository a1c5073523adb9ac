-- The trail is quiet before each round.
use Rattle.std.proofs.Common.{◌≡◌, length}
use Rattle.watch_lists.specs.Watching.{IsReady}
use Rattle.propagation_bench.proofs.rounds.run.Given as goal

abbrev pub invariant-loop-round : goal.invariant-loop-round
invariant-loop-round l = record {
  ready : IsReady l.arena l.watches l.trail;
  quiet : l.trail.gone ≡ length l.trail.entries;
}
