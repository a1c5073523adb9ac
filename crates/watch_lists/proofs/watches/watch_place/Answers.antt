use Rattle.watch_lists.proofs.Visited.{place_found}
use Rattle.watch_lists.proofs.watches.watch_place.Goals as goal

pub returns : goal.returns
returns c =
    place_found c.args.arena.now c.args.r c.lit.result c.args.lit c.ne.result c.from.result c.lit.ensures c.ne.ensures c.from.ensures
