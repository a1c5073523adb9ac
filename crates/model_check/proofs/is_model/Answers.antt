-- The test of the clauses, with the length that the caller gives, is what a model is.
use Rattle.std.proofs.Common.{◌∙◌, ap}
use Rattle.cnf_core.specs.Literals.{all_true}
use Rattle.model_check.proofs.Tested.{is_model_by, member_by}
use Rattle.model_check.proofs.is_model.Goals as goal

pub returns-clause-model : goal.returns-clause-model
returns-clause-model c =
    is_model_by c.args.formula.now c.args.values.now c.are_satisfied.result c.requires
    (c.are_satisfied.ensures ∙ ap (all_true c.args.values.now) c.clauses.ensures.value)

pub returns-clause-member : goal.returns-clause-member
returns-clause-member c =
    member_by c.args.formula.now c.args.values.now c.are_satisfied.result c.requires
    (c.are_satisfied.ensures ∙ ap (all_true c.args.values.now) c.clauses.ensures.value)
