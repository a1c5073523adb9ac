-- The block has gained the words of the model.
use Rattle.std.proofs.Common.{◌≡◌, sym, ap, ◌∙◌, subst, arith}
use Rattle.cnf_core.specs.Formulas.{Cnf, IsModel}
use Rattle.model_store.proofs.Grown.{block-pushed, count_of_view, formula_of_view, store-pushed}
use Rattle.model_store.proofs.store.ModelStore.push.Goals as goal

pub overflow_add-self : goal.overflow_add-self
overflow_add-self c =
    let count = count_of_view c.self.inside.words.items c.self.inside.formula.now c.self.inside.count c.args.self.now c.self.view_is in
    omega (arith, c.requires.room)

pub invariant_of-self-2 : goal.invariant_of-self-2
invariant_of-self-2 c =
    let old = c.self.inside.words.items in
    let F = c.self.inside.formula.now in
    let count = count_of_view old F c.self.inside.count c.args.self.now c.self.view_is in
    let formula : F ≡ c.args.self.now.formula = formula_of_view old F c.self.inside.count c.args.self.now c.self.view_is in
    let a = c.args.model.now in
    block-pushed old c.push_packed.new.words.items F c.self.inside.count a c.self.invariant
    (subst (λ (G : Cnf). IsModel G a) (sym formula) c.requires.model) c.in_ok-push_packed.ensures.ok
    (omega (arith, c.requires.room))

pub returns-clause-place : goal.returns-clause-place
returns-clause-place c =
    count_of_view c.self.inside.words.items c.self.inside.formula.now c.self.inside.count c.args.self.now c.self.view_is

pub returns-clause-ok : goal.returns-clause-ok
returns-clause-ok c =
    let old = c.self.inside.words.items in
    let F = c.self.inside.formula.now in
    let formula : F ≡ c.args.self.now.formula = formula_of_view old F c.self.inside.count c.args.self.now c.self.view_is in
    store-pushed old c.push_packed.new.words.items F c.self.inside.count c.args.model.now c.args.self.now c.self.view_is
    c.self.invariant (c.requires.model.values ∙ ap (λ (G : Cnf). G.vars) (sym formula)) c.in_ok-push_packed.ensures.ok
