-- The test of all clauses, as a model and as a member of the list of models.
use Rattle.std.proofs.Common.{◌≡◌, ◌↔◌, Bool, IsTrue, length, Contains, sym, ◌∙◌}
use Rattle.cnf_core.specs.Literals.{Assignment, all_true}
use Rattle.cnf_core.specs.Formulas.{Cnf, models, IsModel}
use Rattle.cnf_core.proofs.Models.{model_in, model_of}

pub is_model_by : (F : Cnf) (a : Assignment) (test : Bool) → length a ≡ F.vars → test ≡ all_true a F.clauses
    → IsTrue test ↔ IsModel F a
is_model_by F a test values tested = (
  λ holds. record { values = values; satisfied = sym tested ∙ holds },
  λ model. tested ∙ model.satisfied,
)

pub member_by : (F : Cnf) (a : Assignment) (test : Bool) → length a ≡ F.vars → test ≡ all_true a F.clauses
    → IsTrue test ↔ Contains (models F) a
member_by F a test values tested =
    let both = is_model_by F a test values tested in
    (λ holds. model_in F a (both.0 holds), λ member. both.1 (model_of F a member))
