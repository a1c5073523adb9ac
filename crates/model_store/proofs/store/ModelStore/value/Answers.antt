-- The bit at the variable's place in the words of the model.
use Rattle.std.proofs.Common.{◌≡◌, ap, ◌∙◌, arith}
use Rattle.model_store.specs.Steps.Packed.{words_for}
use Rattle.model_store.proofs.Values.{word_within, bit_is_value}
use Rattle.model_store.proofs.store.ModelStore.value.Goals as goal

pub index-requires : goal.index-requires
index-requires c =
    let F = c.self.inside.formula.now in
    let width : c.words_for.result ≡ words_for F.vars = c.words_for.ensures ∙ ap words_for c.vars.ensures.value in
    let within = word_within c.self.inside.words.items F c.self.inside.count c.args.self.now c.words_for.result c.args.model c.args.var
    c.self.view_is c.self.invariant width c.requires.model_in c.requires.var_in.0 c.requires.var_in.1 in
    omega (arith, c.self.inside.words.ok.0)

pub returns-clause-value : goal.returns-clause-value
returns-clause-value c =
    let F = c.self.inside.formula.now in
    let width : c.words_for.result ≡ words_for F.vars = c.words_for.ensures ∙ ap words_for c.vars.ensures.value in
    bit_is_value c.self.inside.words.items F c.self.inside.count c.args.self.now c.words_for.result c.args.model c.args.var
    c.index.result.now c.self.view_is c.self.invariant width c.requires.model_in c.requires.var_in.0 c.requires.var_in.1 c.index.ensures
