-- What is taken from a clause is there.
use Rattle.std.proofs.Common.{ℕ, ◌-◌, ◌<◌, length, get_or, refl, arith}
use Rattle.std.proofs.lemmas.List.Elements.{All-get_or}
use Rattle.local_search.proofs.Flipped.{lower_room, lower_more}
use Rattle.local_search.proofs.search.lower.Goals as goal

pub overflow_sub-tally : goal.overflow_sub-tally
overflow_sub-tally c =
    (lower_room c.args.var c.args.places.now c.loop-place.place-index (get_or c.args.places.now c.loop-place.place-index 0)
    c.loop-place.counts.tallies c.args.counts.now.tallies c.tally-old.result c.requires c.loop-place.invariant.lowered c.loop-place-test.true
    refl c.tally-old.ensures).0

pub overflow_sub-tally-in-loop-place : goal.overflow_sub-tally-in-loop-place
overflow_sub-tally-in-loop-place c =
    let room = (lower_room c.args.var c.args.places.now c.loop-place.place-index (get_or c.args.places.now c.loop-place.place-index 0)
    c.loop-place.counts.tallies c.args.counts.now.tallies c.tally-old.result c.requires c.loop-place.invariant.lowered c.loop-place-test.true
    refl c.tally-old.ensures).1 in
    omega (arith, room, c.from.ensures)

pub loop-place-preserved : goal.loop-place-preserved
loop-place-preserved c =
    let places = c.args.places.now in
    let i = c.loop-place.place-index in
    let p = get_or places i 0 in
    let room = lower_room c.args.var places i p c.loop-place.counts.tallies c.args.counts.now.tallies c.tally-old.result c.requires
    c.loop-place.invariant.lowered c.loop-place-test.true refl c.tally-old.ensures in
    let inside : p < length c.args.counts.now.tallies =
    All-get_or (λ (q : ℕ). q < length c.args.counts.now.tallies) places i 0 c.loop-place-test.true c.requires.inside in
    rw c.set.ensures
    (record {
      vars = c.loop-place.invariant.vars;
      lowered = lower_more c.args.var places i p c.loop-place.counts.tallies c.args.counts.now.tallies c.tally-old.result
          (record { count = c.tally-old.result.count - 1; sum = c.tally-old.result.sum - c.from.result })
          c.loop-place.invariant.lowered c.loop-place-test.true refl (omega (arith, inside, c.loop-place.invariant.lowered.each))
          c.tally-old.ensures (omega (arith, room.0)) (omega (arith, room.1, c.from.ensures));
    })
