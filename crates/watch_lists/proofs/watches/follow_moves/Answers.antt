use Rattle.std.proofs.Common.{sym, ◌∙◌, arith}
use Rattle.watch_lists.proofs.Moving.{moving_gone, moving_kept}
use Rattle.watch_lists.proofs.watches.follow_moves.Goals as goal

pub loop-at-preserved-in_default : goal.loop-at-preserved-in_default
loop-at-preserved-in_default c =
    moving_gone c.args.moves.now c.args.list.now.items c.loop-at.list.items c.loop-at.at c.loop-at.kept c.index.result.now
    c.loop-at.invariant (omega (arith, c.len-at-end.ensures)) c.index.ensures
    (λ y is. c.in_default.not-Some y (c.moved.ensures ∙ is))

pub loop-at-preserved : goal.loop-at-preserved
loop-at-preserved c =
    moving_kept c.args.moves.now c.args.list.now.items c.loop-at.list.items c.loop-at.at c.loop-at.kept c.index.result.now
    c.in-Some.watch c.loop-at.invariant (omega (arith, c.len-at-end.ensures)) c.index.ensures
    (sym c.moved.ensures ∙ c.in-Some.is)
