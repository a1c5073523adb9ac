use Rattle.std.proofs.Common.{◌-◌, sym, ap, ◌∙◌, arith}
use Rattle.clause_arena.specs.Entries.{move_of}
use Rattle.clause_arena.proofs.Sinking.{move_stayed, move_behind}
use Rattle.clause_arena.proofs.moves.Moves.to.Goals as goal

pub returns-then-place-self : goal.returns-then-place-self
returns-then-place-self c =
    sym (move_stayed c.self.inside.stayed c.args.old c.self.inside.to.items (omega (arith, c.if-place-self.true, c.place.ensures)))
    ∙ ap (λ ms. move_of ms c.args.old) c.self.view_is

pub returns : goal.returns
returns c =
    c.move_at.ensures
    ∙ sym (move_behind c.self.inside.stayed c.args.old (c.place-2.result - c.self.inside.stayed) c.self.inside.to.items
    (omega (arith, c.if-place-self.false, c.place.ensures)) (omega (arith, c.place-2.ensures)))
    ∙ ap (λ ms. move_of ms c.args.old) c.self.view_is
