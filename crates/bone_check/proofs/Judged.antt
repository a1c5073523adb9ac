-- One model line, as it is tested.
use Rattle.std.proofs.Common.{◌≡◌, ◌↔◌, ℕ, ◌<◌, Bool, true, false, IsTrue, List, [], Some, None, length, get_or, refl, sym, ◌∙◌}
use Rattle.std.proofs.lemmas.List.{get_or_default}
use Rattle.cnf_core.specs.Literals.{Assignment, all_true}
use Rattle.cnf_core.specs.Formulas.{Cnf, IsModel}
use Rattle.lrat_lines.proofs.SameSets.{same_test}
use Rattle.witness_text.specs.Models.{model_in}
use Rattle.bone_check.specs.declared.verdict.Reason.TheVariants.{NotAModel}
use Rattle.bone_check.specs.Witnessing.{model_fault}

-- the test of a model is whether all clauses are true
model_told : (F : Cnf) (a : Assignment) (b : Bool) → length a ≡ F.vars → IsTrue b ↔ IsModel F a → b ≡ all_true a F.clauses
model_told F a b values told =
    same_test b (all_true a F.clauses)
    (λ holds. (told.0 holds).satisfied)
    (λ holds. told.1 (record { values = values; satisfied = holds }))

model_passes : (F : Cnf) (a : Assignment) → all_true a F.clauses ≡ true → model_fault F a ≡ None
model_passes F a holds = rw holds refl

model_fails : (F : Cnf) (a : Assignment) → all_true a F.clauses ≡ false → model_fault F a ≡ Some NotAModel
model_fails F a fails = rw fails refl

-- the test of a model, by a test that tells it
pub told_none : (F : Cnf) (a : Assignment) (b : Bool) → length a ≡ F.vars → IsTrue b ↔ IsModel F a → b ≡ true → None ≡ model_fault F a
told_none F a b values told is = sym (model_passes F a (sym (model_told F a b values told) ∙ is))

pub told_some : (F : Cnf) (a : Assignment) (b : Bool) → length a ≡ F.vars → IsTrue b ↔ IsModel F a → b ≡ false
    → Some NotAModel ≡ model_fault F a
told_some F a b values told is = sym (model_fails F a (sym (model_told F a b values told) ∙ is))

pub model_read : (models : List Assignment) (k : ℕ) → k < length models → model_in models k ≡ get_or models k (model_in models k)
model_read models k lt = get_or_default models k [] (model_in models k) lt
