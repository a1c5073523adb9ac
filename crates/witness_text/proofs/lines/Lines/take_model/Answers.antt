-- The block has gained the words of the model.
use Rattle.std.proofs.Common.{sym}
use Rattle.witness_text.proofs.Gathered.{gathered-model, seen-model}
use Rattle.witness_text.proofs.lines.Lines.take_model.Goals as goal

pub invariant_of-self-2 : goal.invariant_of-self-2
invariant_of-self-2 c =
    let inside = c.self.inside in
    gathered-model inside.words.items c.push_digits.new.words.items inside.vars inside.count c.in-Some.count inside.drops.items inside.last
    c.args.self.now c.args.digits.now c.self.view_is c.self.invariant (sym c.if-not-can_be_model.ensures) c.in_ok-push_digits.ensures.ok
    c.in-Some.ensures.1

pub returns : goal.returns
returns c =
    let inside = c.self.inside in
    seen-model inside.words.items c.push_digits.new.words.items inside.vars inside.count c.in-Some.count inside.drops.items inside.last
    c.args.self.now c.args.digits.now c.self.view_is c.self.invariant (sym c.if-not-can_be_model.ensures) c.in_ok-push_digits.ensures.ok
    c.in-Some.ensures.1
