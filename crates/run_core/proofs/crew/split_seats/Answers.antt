use Rattle.std.proofs.Common.{◌<◌, length, arith}
use Rattle.run_core.proofs.Splits.{splitting_next}
use Rattle.run_core.proofs.crew.split_seats.Goals as goal

pub loop-slots-preserved : goal.loop-slots-preserved
loop-slots-preserved g c =
    let low : length c.loop-slots.slots.items < c.args.workers = omega (arith, c.loop-slots.slots.ok.0) in
    splitting_next c.args.words.now c.args.workers c.loop-slots.root c.split.new.root c.split.result c.loop-slots.slots.items
    c.push-in-loop-slots.new.self.items low c.in_ok-push-2.ensures.items c.loop-slots.invariant c.split.ensures.parent c.split.ensures.child
    c.split.ensures.sits c.split.ensures.once
