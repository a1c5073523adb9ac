-- All clauses are true in the flipped model, which has a value for each variable.
use Rattle.std.proofs.Common.{◌≡◌, ap, ◌∙◌, subst}
use Rattle.cnf_core.specs.Literals.{all_true}
use Rattle.cnf_core.specs.Formulas.{Cnf}
use Rattle.model_check.specs.Flips.{flipped}
use Rattle.model_check.proofs.Tested.{is_model_by}
use Rattle.model_store.specs.Stores.{model_at, HoldsModels}
use Rattle.model_store.proofs.Flipped.{length-flipped_at}
use Rattle.model_store.proofs.Grown.{formula_of_view}
use Rattle.model_store.proofs.store.ModelStore.is_flipped_model.Goals as goal

pub returns : goal.returns
returns c =
    let s = c.args.self.now in
    let a = flipped (model_at s c.args.model) c.args.var in
    let formula : c.self.inside.formula.now ≡ s.formula =
    formula_of_view c.self.inside.words.items c.self.inside.formula.now c.self.inside.count s c.self.view_is in
    let holds : HoldsModels s = subst HoldsModels c.self.view_is c.self.invariant.holds in
    is_model_by s.formula a c.are_satisfied.result (length-flipped_at s c.args.model c.args.var holds c.requires.model_in)
    (c.are_satisfied.ensures ∙ ap (all_true a) c.clauses.ensures.value ∙ ap (λ (F : Cnf). all_true a F.clauses) formula)
