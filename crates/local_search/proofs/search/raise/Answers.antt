-- There is room for what is given.
use Rattle.std.proofs.Common.{get_or, refl, arith}
use Rattle.local_search.proofs.Flipped.{raise_room}
use Rattle.local_search.proofs.search.raise.Goals as goal

pub overflow_add-tally : goal.overflow_add-tally
overflow_add-tally c =
    let room = (raise_room c.args.var c.args.places.now c.loop-place.place-index (get_or c.args.places.now c.loop-place.place-index 0)
    c.args.counts.now.tallies c.loop-place.counts.tallies c.tally-old.result c.requires c.loop-place.invariant.raised c.loop-place-test.true
    refl c.tally-old.ensures).0 in
    omega arith

pub overflow_add-tally-in-loop-place : goal.overflow_add-tally-in-loop-place
overflow_add-tally-in-loop-place c =
    let room = (raise_room c.args.var c.args.places.now c.loop-place.place-index (get_or c.args.places.now c.loop-place.place-index 0)
    c.args.counts.now.tallies c.loop-place.counts.tallies c.tally-old.result c.requires c.loop-place.invariant.raised c.loop-place-test.true
    refl c.tally-old.ensures).1 in
    omega (arith, room, c.from.ensures)
