use Rattle.std.proofs.Common.{sym, subst}
use Rattle.trail_core.specs.Trails.{TrailState}
use Rattle.watch_lists.specs.Watching.{IsReady}
use Rattle.watch_lists.proofs.Kept.{ready_decided}
use Rattle.propagation_bench.proofs.rounds.descend.Goals as goal

pub propagate-requires : goal.propagate-requires
propagate-requires c =
    subst (λ (t : TrailState). IsReady c.loop-decision.arena c.loop-decision.watches t) (sym c.decide.ensures)
    (ready_decided c.loop-decision.arena c.loop-decision.watches c.loop-decision.trail c.in-Some.lit
    c.loop-decision.invariant.ready c.loop-decision.invariant.quiet)
