-- Models as facts: the members of the list `models F` are the assignments with `IsModel F`, and what is
-- entailed is true in each of these. What is proved above this file opens none of these definitions.
use Rattle.std.proofs.Common.{◌≡◌, ℕ, Bool, true, false, not, ◌&&◌, IsTrue, [], ◌∷◌, Contains, refl, sym, ap, ◌∙◌, subst}
use Rattle.std.proofs.lemmas.Bool.{false_from_ne_true, and_parts, and_from, both_ways}
use Rattle.std.proofs.lemmas.List.Folds.{list_all-append}
use Rattle.cnf_core.specs.Literals.{Literal, Literals, Assignment, is_true, clause_true, all_true}
use Rattle.cnf_core.specs.Formulas.{Cnf, with_clause, assignments, models, IsModel, entails, Entails, entails_clause, EntailsClause, IsAgainst}
use Rattle.cnf_core.specs.Laws.{ModelsAreMembers}
use Rattle.cnf_core.proofs.Lists.{Contains-nil, nil_without_members, Contains-filter, kept_of_Contains-filter, passes_of_list_all, list_all_of_members}
use Rattle.cnf_core.proofs.Assignments.{Contains-assignments, length_of_Contains-assignments}

-- between membership and the fact
pub model_in : (F : Cnf) (a : Assignment) → IsModel F a → Contains (models F) a
unfolding models
model_in F a model =
    Contains-filter (λ b. all_true b F.clauses) (assignments F.vars) a
    (Contains-assignments F.vars a model.values) model.satisfied

pub model_of : (F : Cnf) (a : Assignment) → Contains (models F) a → IsModel F a
unfolding models
model_of F a here =
    let kept = kept_of_Contains-filter (λ b. all_true b F.clauses) (assignments F.vars) a here in
    record { values = length_of_Contains-assignments F.vars a kept.member; satisfied = kept.passes }

pub models_members : ModelsAreMembers
models_members F a = (model_of F a, model_in F a)

-- a formula with an empty list of models has no model
pub models-nil : (F : Cnf) → ((a : Assignment) → IsModel F a → ⊥) → models F ≡ []
models-nil F none = nil_without_members (models F) (λ a here. none a (model_of F a here))

pub no_model : (F : Cnf) (a : Assignment) → models F ≡ [] → IsModel F a → ⊥
no_model F a empty model = Contains-nil a (subst (λ all. Contains all a) empty (model_in F a model))

-- what is true in each model is entailed, and what is entailed is true in each
pub entails_by : (F : Cnf) (l : Literal) → ((a : Assignment) → IsModel F a → IsTrue (is_true a l))
    → Entails F l
unfolding entails
entails_by F l each = list_all_of_members (λ a. is_true a l) (models F) (λ a here. each a (model_of F a here))

pub entails_at : (F : Cnf) (l : Literal) (a : Assignment) → Entails F l → IsModel F a → IsTrue (is_true a l)
unfolding entails
entails_at F l a entailed model = passes_of_list_all (λ b. is_true b l) (models F) a entailed (model_in F a model)

pub entails_clause_by : (F : Cnf) (c : Literals) → ((a : Assignment) → IsModel F a → IsTrue (clause_true a c))
    → EntailsClause F c
unfolding entails_clause
entails_clause_by F c each = list_all_of_members (λ a. clause_true a c) (models F) (λ a here. each a (model_of F a here))

pub entails_clause_at : (F : Cnf) (c : Literals) (a : Assignment) → EntailsClause F c → IsModel F a
    → IsTrue (clause_true a c)
unfolding entails_clause
entails_clause_at F c a entailed model =
    passes_of_list_all (λ b. clause_true b c) (models F) a entailed (model_in F a model)

-- a literal that is false in one model is not entailed
pub entails-false : (F : Cnf) (l : Literal) (a : Assignment) → IsModel F a → is_true a l ≡ false
    → entails F l ≡ false
entails-false F l a model wrong =
    false_from_ne_true (entails F l) (λ entailed. both_ways (is_true a l) wrong (entails_at F l a entailed model))

pub entails-against : (F : Cnf) (a : Assignment) (v : ℕ) (p : Bool) → IsAgainst F a v p
    → entails F (record { var = v; positive = p }) ≡ false
entails-against F a v true against = entails-false F (record { var = v; positive = true }) a against.is_model against.opposite
entails-against F a v false against =
    entails-false F (record { var = v; positive = false }) a against.is_model (ap not against.opposite)

-- a model of the formula with one clause more
pub with_clause_model : (F : Cnf) (c : Literals) (a : Assignment) → IsModel F a → IsTrue (clause_true a c)
    → IsModel (with_clause F c) a
with_clause_model F c a model holds = record {
  values = model.values;
  satisfied =
      list_all-append (clause_true a) F.clauses (c ∷ [])
      ∙ and_from (all_true a F.clauses) (clause_true a c && true) model.satisfied (and_from (clause_true a c) true holds refl);
}

pub record IsModelOfBoth (F : Cnf) (c : Literals) (a : Assignment) : Type 0 where
  pub is_model : IsModel F a
  pub holds : IsTrue (clause_true a c)

pub model_of_with_clause : (F : Cnf) (c : Literals) (a : Assignment) → IsModel (with_clause F c) a
    → IsModelOfBoth F c a
model_of_with_clause F c a model =
    let parts = and_parts (all_true a F.clauses) (clause_true a c && true)
    (sym (list_all-append (clause_true a) F.clauses (c ∷ [])) ∙ model.satisfied) in
    record {
      is_model = record { values = model.values; satisfied = parts.0 };
      holds = (and_parts (clause_true a c) true parts.1).0;
    }
