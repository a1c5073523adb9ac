-- The first places of the table.
use Rattle.std.proofs.Common.{take, subst}
use Rattle.local_search.specs.Tallies.{Tallied, ListsBroken}
use Rattle.local_search.proofs.Counted.{lists_broken}
use Rattle.local_search.proofs.counts.Counts.broken.Goals as goal

pub returns : goal.returns
returns c =
    rw c.deref.ensures.value
    (subst (λ (t : Tallied). ListsBroken t.tallies (take c.self.inside.broken c.self.inside.order.items)) c.self.view_is
    (lists_broken c.self.inside.tallies.items c.self.inside.order.items c.self.inside.spots.items c.self.inside.broken
    c.self.inside.breaks.items c.self.invariant))
