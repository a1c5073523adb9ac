-- The list has just the variable's places.
use Rattle.std.proofs.Common.{◌≤◌, sym, subst}
use Rattle.flip_literals.specs.Listings.{Listing, ListsPlaces}
use Rattle.flip_literals.proofs.occurrences.Occurrences.places.Goals as goal

pub returns-clause-places : goal.returns-clause-places
returns-clause-places c =
    let high : c.args.var ≤ c.self.inside.clauses.vars = subst (λ (o : Listing). c.args.var ≤ o.formula.vars) (sym c.self.view_is) c.requires.1 in
    subst (λ (o : Listing). ListsPlaces o c.args.var c.get.result.now) c.self.view_is
    (c.get.ensures c.self.inside.clauses c.self.inside.first c.self.invariant.own_index c.requires.0 high)
