-- The variable is set to the other value, and waits.
use Rattle.std.proofs.Common.{refl, rules}
use Rattle.flip_literals.specs.Steps.Passes.{IsFlipped}
use Rattle.flip_literals.proofs.Holding.{flip-told, flip-room, flip-pushed}
use Rattle.flip_literals.proofs.holds.Holds.flip.Goals as goal

pub push_reserved-requires : goal.push_reserved-requires
push_reserved-requires c =
    let o = c.args.occurrences.now in
    let told : IsFlipped o c.args.var c.args.model.now c.set.new.self =
    flip-told o c.args.model.now c.set.new.self c.args.var c.get-value.result c.first.result c.requires.holding.is_model
    c.first.ensures.each c.requires.var.0 c.requires.var.1 c.get-value.ensures c.first.ensures.value c.if-value-first.false
    (c.is_held.ensures.free c.if-is_held.false) c.set.ensures in
    flip-room o c.args.self.now c.is_held.new.self c.args.model.now c.set.new.self c.args.var c.requires.holding c.is_held.ensures.same told
    c.first.ensures.each (search rules)

pub returns-clause-told : goal.returns-clause-told
returns-clause-told c =
    flip-told c.args.occurrences.now c.args.model.now c.set.new.self c.args.var c.get-value.result c.first.result c.requires.holding.is_model
    c.first.ensures.each c.requires.var.0 c.requires.var.1 c.get-value.ensures c.first.ensures.value c.if-value-first.false
    (c.is_held.ensures.free c.if-is_held.false) c.set.ensures

pub returns-clause-flip : goal.returns-clause-flip
returns-clause-flip c =
    let o = c.args.occurrences.now in
    let told : IsFlipped o c.args.var c.args.model.now c.set.new.self =
    flip-told o c.args.model.now c.set.new.self c.args.var c.get-value.result c.first.result c.requires.holding.is_model
    c.first.ensures.each c.requires.var.0 c.requires.var.1 c.get-value.ensures c.first.ensures.value c.if-value-first.false
    (c.is_held.ensures.free c.if-is_held.false) c.set.ensures in
    flip-pushed o c.args.self.now c.is_held.new.self (record c.is_held.new.self { flipped = c.push_reserved.new.self }) c.args.model.now c.set.new.self c.args.var c.requires.holding c.is_held.ensures.same told
    c.requires.var.0 c.requires.var.1 refl refl refl c.push_reserved.ensures.items c.push_reserved.ensures.capacity
