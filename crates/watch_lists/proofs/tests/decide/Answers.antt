use Rattle.std.proofs.Common.{sym, subst}
use Rattle.trail_core.specs.Trails.{TrailState}
use Rattle.watch_lists.specs.Watching.{IsReady}
use Rattle.watch_lists.proofs.Kept.{ready_decided}
use Rattle.watch_lists.proofs.tests.decide.Goals as goal

pub propagate-requires-2 : goal.propagate-requires-2
propagate-requires-2 g c =
    subst (λ (t : TrailState). IsReady c.propagate.new.arena c.propagate.new.self t) (sym c.decide.ensures)
    (ready_decided c.propagate.new.arena c.propagate.new.self c.propagate.new.trail c.in_ok-lit.lit c.in-Quiet.ensures.ready
    c.in-Quiet.ensures.step)
