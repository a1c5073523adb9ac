-- The hidden values are drawn, and then the clauses.
use Rattle.std.proofs.Common.{◌≡◌, length, ap, ◌∙◌, arith}
use Rattle.std.proofs.lemmas.Result.{IfOk-weaker}
use Rattle.rand_pcg.specs.Lcg.{Lcg}
use Rattle.cnf_core.specs.Literals.{Assignment}
use Rattle.cnf_gen.specs.Draws.{seeded}
use Rattle.cnf_gen.specs.Planted.{values_drawn}
use Rattle.cnf_gen.proofs.Values.{length-values_drawn}
use Rattle.cnf_gen.proofs.Clauses.{clauses_planted}
use Rattle.cnf_gen.proofs.HiddenModel.{hidden_is_model}
use Rattle.cnf_gen.proofs.formula.planted.Goals as goal

pub returns-in_err-values-clause-model : goal.returns-in_err-values-clause-model
returns-in_err-values-clause-model c = hidden_is_model c.args.vars c.args.clauses c.args.seed

pub draw_formula-requires : goal.draw_formula-requires
draw_formula-requires c =
    let drawn = rw c.generator-rng.ensures at c.in_ok-values.ensures in
    let long : length c.deref.result.now ≡ c.args.vars =
    ap length c.deref.ensures.value
    ∙ (ap (λ (p : Assignment × Lcg). length p.0) drawn ∙ length-values_drawn c.args.vars (seeded c.args.seed)) in
    (omega (arith, long), omega (arith, long), omega (arith, long))

pub returns-clause-value : goal.returns-clause-value
returns-clause-value c =
    let drawn = rw c.generator-rng.ensures at c.in_ok-values.ensures in
    let same : (c.deref.result.now, c.draw_values.new.rng) ≡ values_drawn c.args.vars (seeded c.args.seed) =
    ap (λ (values : Assignment). (values, c.draw_values.new.rng)) c.deref.ensures.value ∙ drawn in
    IfOk-weaker c.draw_formula.result _ _
    (λ F is. clauses_planted c.args.vars c.args.clauses c.args.seed c.deref.result.now c.draw_values.new.rng F same is)
    c.draw_formula.ensures

pub returns-clause-model : goal.returns-clause-model
returns-clause-model c = hidden_is_model c.args.vars c.args.clauses c.args.seed
