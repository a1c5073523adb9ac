-- One variable less waits, and what its clauses free is looked at.
use Rattle.std.proofs.Common.{refl}
use Rattle.flip_literals.specs.Steps.Holding.{IsWork}
use Rattle.flip_literals.proofs.Holding.{work-popped, work-more, follow-smaller}
use Rattle.flip_literals.proofs.holds.Holds.follow.Goals as goal

pub loop-var-smaller : goal.loop-var-smaller
loop-var-smaller c = follow-smaller c.args.occurrences.now c.loop-var.self (record c.loop-var.self { flipped = c.pop.new.self }) c.look_behind.new.self c.loop-var.model c.look_behind.new.model
    c.pop.new.self.items c.in-Some.var (c.in-Some.ensures.items) refl c.look_behind.ensures

pub loop-var-preserved : goal.loop-var-preserved
loop-var-preserved c =
    let o = c.args.occurrences.now in
    let h = c.args.self.now in
    let k = c.loop-var.self in
    let m = record c.loop-var.self { flipped = c.pop.new.self } in
    let popped : IsWork o h c.args.model.now m c.loop-var.model =
    work-popped o h k m c.args.model.now c.loop-var.model c.pop.new.self.items c.in-Some.var c.loop-var.invariant refl refl refl
    c.in-Some.ensures.items refl c.in-Some.ensures.capacity in
    work-more o h m c.look_behind.new.self c.args.model.now c.loop-var.model c.look_behind.new.model popped c.look_behind.ensures
