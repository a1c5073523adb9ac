-- All values were copied.
use Rattle.std.proofs.Common.{arith}
use Rattle.std.proofs.lemmas.List.{same_lists}
use Rattle.local_search.proofs.search.copy.Goals as goal

pub returns : goal.returns
returns c =
    same_lists c.loop-i.to c.args.from.now c.loop-i.invariant.each
    (λ k d below. c.loop-i.invariant.copied k d (omega (arith, below, c.loop-i.invariant.each, c.len-i-end.ensures, c.loop-i-test.false)))
