-- The block has gained the other's words, which are of the same formula.
use Rattle.std.proofs.Common.{◌≡◌, ◌+◌, ◌++◌, List, ℕ, sym, ap, ◌∙◌, subst, arith, rules}
use Rattle.cnf_core.specs.Formulas.{Cnf}
use Rattle.model_store.specs.Steps.Packed.{all_unpacked}
use Rattle.model_store.specs.Stores.{store_of}
use Rattle.model_store.specs.Steps.Blocks.{IsBlock}
use Rattle.model_store.proofs.Grown.{block-append, count_of_view, formula_of_view, store-append}
use Rattle.model_store.proofs.store.ModelStore.append.Goals as goal

pub overflow_add-self : goal.overflow_add-self
overflow_add-self c =
    let count = count_of_view c.self.inside.words.items c.self.inside.formula.now c.self.inside.count c.args.self.now c.self.view_is in
    let more = count_of_view c.other.inside.words.items c.other.inside.formula.now c.other.inside.count c.args.other c.other.view_is in
    omega (arith, c.requires.room)

pub invariant_of-self-2 : goal.invariant_of-self-2
invariant_of-self-2 c =
    let xs = c.self.inside.words.items in
    let ys = c.other.inside.words.items in
    let F = c.self.inside.formula.now in
    let G = c.other.inside.formula.now in
    let count = count_of_view xs F c.self.inside.count c.args.self.now c.self.view_is in
    let more = count_of_view ys G c.other.inside.count c.args.other c.other.view_is in
    let same : G ≡ F =
    formula_of_view ys G c.other.inside.count c.args.other c.other.view_is ∙ c.requires.same
    ∙ sym (formula_of_view xs F c.self.inside.count c.args.self.now c.self.view_is) in
    let other : IsBlock ys F c.other.inside.count = subst (λ (H : Cnf). IsBlock ys H c.other.inside.count) same c.other.invariant in
    let items : c.append.new.self.items ≡ xs ++ ys = search rules in
    subst (λ (words : List ℕ). IsBlock words F (c.self.inside.count + c.other.inside.count)) (sym items)
    (block-append xs ys F c.self.inside.count c.other.inside.count c.self.invariant other (omega (arith, c.requires.room)))

pub returns-clause-place : goal.returns-clause-place
returns-clause-place c =
    count_of_view c.self.inside.words.items c.self.inside.formula.now c.self.inside.count c.args.self.now c.self.view_is

pub returns-clause-ok : goal.returns-clause-ok
returns-clause-ok c =
    let xs = c.self.inside.words.items in
    let ys = c.other.inside.words.items in
    let F = c.self.inside.formula.now in
    let G = c.other.inside.formula.now in
    let same : G ≡ F =
    formula_of_view ys G c.other.inside.count c.args.other c.other.view_is ∙ c.requires.same
    ∙ sym (formula_of_view xs F c.self.inside.count c.args.self.now c.self.view_is) in
    let other : store_of F (all_unpacked ys F.vars c.other.inside.count) ≡ c.args.other =
    subst (λ (H : Cnf). store_of H (all_unpacked ys H.vars c.other.inside.count) ≡ c.args.other) same c.other.view_is in
    let items : c.append.new.self.items ≡ xs ++ ys = search rules in
    ap (λ (words : List ℕ). store_of F (all_unpacked words F.vars (c.self.inside.count + c.other.inside.count))) items
    ∙ store-append xs ys F c.self.inside.count c.other.inside.count c.args.self.now c.args.other c.self.view_is other c.self.invariant
