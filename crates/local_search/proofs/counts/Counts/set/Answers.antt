-- The old tally goes and the new one comes.
use Rattle.std.proofs.Common.{◌<◌, ◌==◌, length, sym, subst, arith}
use Rattle.local_search.specs.Tallies.{Tallied}
use Rattle.local_search.specs.Steps.Spots.{IsArranged, Settles}
use Rattle.local_search.proofs.Counted.{breaks_fit, counts_changed}
use Rattle.local_search.proofs.counts.Counts.set.Goals as goal

pub gain-requires : goal.gain-requires
gain-requires c =
    breaks_fit c.self.inside.tallies.items c.self.inside.order.items c.self.inside.spots.items c.self.inside.broken
    c.self.inside.breaks.items c.lose.new.breaks.items c.index-old.result.now c.self.invariant c.lose.ensures

pub invariant_of-self : goal.invariant_of-self
invariant_of-self c =
    counts_changed c.self.inside.tallies.items c.self.inside.order.items c.self.inside.spots.items c.self.inside.broken
    c.self.inside.breaks.items c.args.place c.index-old.result.now c.args.tally c.settle_again-self-inside.new.order.items
    c.settle_again-self-inside.new.spots.items c.settle_again-self-inside.result c.lose.new.breaks.items c.gain.new.breaks.items c.self.invariant
    (subst (λ (t : Tallied). c.args.place < length t.tallies) (sym c.self.view_is) c.requires) c.index-old.ensures c.lose.ensures
    c.gain.ensures (subst (λ n. IsArranged n c.settle_again-self-inside.new.order.items c.settle_again-self-inside.new.spots.items) c.self.invariant.arranged.orders
    c.settle_again-self-inside.ensures.arranged)
    (omega (arith, c.settle_again-self-inside.ensures.count, c.self.invariant.arranged.orders))
    (subst (λ n. Settles n c.args.place (c.args.tally.count == 0) c.self.inside.broken c.self.inside.spots.items
    c.settle_again-self-inside.result c.settle_again-self-inside.new.spots.items) c.self.invariant.arranged.orders
    c.settle_again-self-inside.ensures.settled)
