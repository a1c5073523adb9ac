-- The part from the clause's start to the next one is the clause.
use Rattle.std.proofs.Common.{◌≡◌, ◌<◌, ◌-◌, length, take, drop, sym, subst}
use Rattle.cnf_core.specs.Formulas.{Cnf}
use Rattle.flip_literals.specs.Listings.{clause_at}
use Rattle.flip_literals.proofs.Flattened.{flat_read}
use Rattle.flip_literals.proofs.flat.FlatClauses.get.Goals as goal

pub returns : goal.returns
returns c =
    let p = c.args.place in
    let start = c.index.result.now in
    let end = c.index-2.result.now in
    let lits = c.self.inside.lits.items in
    let below : p < length c.self.inside.formula.now.clauses = subst (λ (F : Cnf). p < length F.clauses) (sym c.self.view_is) c.requires in
    rw c.deref.ensures.value
    (subst (λ (F : Cnf). take (end - start) (drop start lits) ≡ clause_at F p) c.self.view_is
    (flat_read c.self.inside.formula.now.clauses c.self.inside.starts.items lits p start end c.self.invariant below c.index.ensures
    c.index-2.ensures))
