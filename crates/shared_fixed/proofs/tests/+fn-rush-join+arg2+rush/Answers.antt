use Rattle.std.proofs.Common.{◌<◌, ◌-◌, arith, rules}
use Rattle.shared_fixed.specs.Rushes.{IsRushing, IsAfterDrops, IsAfterRush}
use Rattle.shared_fixed.proofs.Turns.{split_rushes, taken_in}
use Rattle.shared_fixed.proofs.tests.+fn-rush-join+arg2+rush.Goals as goal

pub join-root-requires-after_bounds : goal.join-root-requires-after_bounds
join-root-requires-after_bounds g t c =
    let some : 0 < c.args.count = omega arith in
    let rushing : IsRushing c.args.words.now c.split-seat.new.root (c.args.count - 1) =
    split_rushes c.args.words.now c.args.root c.split-seat.new.root c.args.count c.requires.root some c.split-seat.ensures.sits.0 c.split-seat.ensures.parent in
    search rules

pub returns : goal.returns
returns g t c =
    taken_in c.args.words.now c.args.root c.split-seat.new.root c.join-root.result.0 c.split-seat.result c.join-root.result.1 c.join.new.root c.args.count
    c.requires.root c.split-seat.ensures.parent c.join-root.ensures.first c.split-seat.ensures.child c.join-root.ensures.second c.join.ensures.sits c.join.ensures.joined
