-- Each clause that is looked at has the variable's literal; one that fails after the flip leaves no model.
use Rattle.std.proofs.Common.{◌≡◌, ℕ, [], get_or, sym, ap, ◌∙◌, subst, ⊎_elim, IsTrue}
use Rattle.std.proofs.lemmas.List.Elements.{All-get_or}
use Rattle.cnf_core.specs.Literals.{clause_true, AreWithin}
use Rattle.model_check.specs.Flips.{flipped}
use Rattle.flip_literals.specs.Listings.{clause_at}
use Rattle.flip_literals.proofs.Held.{model_of_places, no_model_at, place_stands, places_hold, HasCome, come-more, come-all}
use Rattle.flip_literals.proofs.occurrences.Occurrences.holder.Goals as goal

pub clause-requires : goal.clause-requires
clause-requires c =
    (place_stands c.args.self.now c.args.var c.around-at.result c.places-places.result.now c.places-places.ensures.places
    c.around-at.ensures.within).within

pub is_true_flipped-requires-clause-within : goal.is_true_flipped-requires-clause-within
is_true_flipped-requires-clause-within c =
    let F = c.args.self.now.formula in
    let places = c.places-places.result.now in
    let at = c.around-at.result in
    let stands = place_stands c.args.self.now c.args.var at places c.places-places.ensures.places c.around-at.ensures.within in
    rw (c.clause.ensures.value, c.requires.model.values)
    (All-get_or (AreWithin F.vars) F.clauses (get_or places at 0) [] stands.within c.clause.ensures.limits.within)

pub returns-then-not-is_true_flipped : goal.returns-then-not-is_true_flipped
returns-then-not-is_true_flipped c =
    let places = c.places-places.result.now in
    let at = c.around-at.result in
    let b = flipped c.args.model.now c.args.var in
    let stands = place_stands c.args.self.now c.args.var at places c.places-places.ensures.places c.around-at.ensures.within in
    no_model_at c.args.self.now.formula b (get_or places at 0) stands.within
    (ap (clause_true b) (sym c.clause.ensures.value) ∙ sym c.is_true_flipped.ensures ∙ c.if-not-is_true_flipped.true)

pub loop-step-preserved : goal.loop-step-preserved
loop-step-preserved c =
    let b = flipped c.args.model.now c.args.var in
    let places = c.places-places.result.now in
    let at = c.around-at.result in
    λ k come.
    ⊎_elim
    (λ (same : k ≡ at).
    subst (λ (j : ℕ). IsTrue (clause_true b (clause_at c.args.self.now.formula (get_or places j 0)))) (sym same)
    (ap (clause_true b) (sym c.clause.ensures.value) ∙ sym c.is_true_flipped.ensures ∙ c.if-not-is_true_flipped.false))
    (λ (before : HasCome _ _ _ k). c.loop-step.invariant k before)
    (come-more _ _ _ at k c.around-at.ensures come)

pub returns : goal.returns
returns c =
    let o = c.args.self.now in
    let places = c.places-places.result.now in
    model_of_places o.formula c.args.model.now o.first c.args.var c.requires.model c.places-places.ensures.limits.within
    c.requires.within.0 c.requires.first
    (places_hold o c.args.var places (flipped c.args.model.now c.args.var) c.places-places.ensures.places
    (λ k below. c.loop-step.invariant k (come-all _ _ _ k c.loop-step-test.false below)))
