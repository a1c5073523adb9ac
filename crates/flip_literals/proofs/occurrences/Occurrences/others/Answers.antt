-- The list has just the places of the other literal.
use Rattle.std.proofs.Common.{◌≤◌, sym, subst}
use Rattle.flip_literals.specs.Listings.{Listing}
use Rattle.flip_literals.specs.Steps.Listed.{ListsOthers}
use Rattle.flip_literals.proofs.occurrences.Occurrences.others.Goals as goal

pub returns : goal.returns
returns c =
    let high : c.args.var ≤ c.self.inside.clauses.vars = subst (λ (o : Listing). c.args.var ≤ o.formula.vars) (sym c.self.view_is) c.requires.1 in
    let index = c.self.invariant.other_index in
    subst (λ (o : Listing). ListsOthers o c.args.var c.get.result.now) c.self.view_is
    (record {
      second = index.second;
      opposite = index.opposite;
      lists = c.get.ensures c.self.inside.clauses index.second index.index c.requires.0 high;
    })
