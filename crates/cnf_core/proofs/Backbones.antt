-- The backbone by one model, by its members, and entailment by a formula without models.
use Rattle.std.proofs.Common.{◌≡◌, ℕ, zero, suc, ◌<◌, ◌≤◌, Bool, true, false, not, ◌||◌, if◌then◌else◌, [], ◌∷◌, get_or, Contains, filter, refl, sym, ap, ◌∙◌, subst, ⊎_elim, true≢false, arith}
use Rattle.std.proofs.lemmas.Bool.{cond_both, true_from_ne_false}
use Rattle.std.proofs.lemmas.List.Elements.{filter-append, Contains-append_cases, Contains-get_or}
use Rattle.cnf_core.specs.Literals.{Literal, Literals, Assignment, negated, value_of, is_true, IsWithin, AreWithin, RisesByVar}
use Rattle.cnf_core.specs.Formulas.{Cnf, with_clause, IsModel, entails, Entails, backbone_at, backbone_upto, backbone, true_literal, true_literals}
use Rattle.cnf_core.specs.Laws.{EntailedByRefutation, BackboneInOneModel, BackboneByMembers}
use Rattle.cnf_core.proofs.Lists.{Contains-cons_cases, Contains-nil, Contains-filter, HoldsOnward, AllPairs_of_HoldsOnward, HoldsOnward-append}
use Rattle.cnf_core.proofs.Truth.{literal_of, is_true-negated, true_literal_of_is_true, Contains-true_literals}
use Rattle.cnf_core.proofs.Models.{models-nil, no_model, entails_by, entails_at, entails-false, with_clause_model, model_of_with_clause}

-- at one variable the model's own literal is the only one that may be entailed
backbone_at_value : (F : Cnf) (a : Assignment) (v : ℕ) (value : Bool) → IsModel F a → value_of a v ≡ value
    → backbone_at F v ≡ filter (entails F) (literal_of v value ∷ [])
unfolding backbone_at
backbone_at_value F a v true model is =
    rw (entails-false F (literal_of v false) a model (ap not is))
backbone_at_value F a v false model is =
    rw (entails-false F (literal_of v true) a model is)

pub backbone_at_model : (F : Cnf) (a : Assignment) (v : ℕ) → IsModel F a
    → backbone_at F v ≡ filter (entails F) (true_literal a v ∷ [])
backbone_at_model F a v model = backbone_at_value F a v (value_of a v) model refl

pub backbone_upto_model : (F : Cnf) (a : Assignment) (n : ℕ) → IsModel F a
    → backbone_upto F n ≡ filter (entails F) (true_literals a n)
unfolding backbone_upto true_literals
backbone_upto_model F a zero model = refl
backbone_upto_model F a (suc n) model =
    let last : Literals = true_literal a (suc n) ∷ [] in
    rw (filter-append (entails F) (true_literals a n) last, backbone_upto_model F a n model, backbone_at_model F a (suc n) model)

pub backbone_of_model : BackboneInOneModel
unfolding backbone
backbone_of_model F a model = backbone_upto_model F a F.vars model

-- the literal of a variable that stands in the backbone is entailed
pub record IsEntailedAt (F : Cnf) (v : ℕ) (l : Literal) : Type 0 where
  pub var_is : l.var ≡ v
  pub entailed : Entails F l

entailed_of_backbone_at : (F : Cnf) (v : ℕ) (l : Literal) → Contains (backbone_at F v) l → IsEntailedAt F v l
unfolding backbone_at
entailed_of_backbone_at F v l here =
    let alone : (sign : Bool) → entails F (literal_of v sign) ≡ true → Contains (literal_of v sign ∷ []) l
    → IsEntailedAt F v l =
    λ sign entailed there. ⊎_elim
    (λ (is : literal_of v sign ≡ l). record {
      var_is = ap (λ (k : Literal). k.var) (sym is);
      entailed = subst (λ k. Entails F k) is entailed;
    })
    (λ (none : Contains [] l). absurd (Contains-nil l none))
    (Contains-cons_cases (literal_of v sign) [] l there)
    in
    cond_both (entails F (literal_of v true)) (literal_of v true ∷ [])
    (if entails F (literal_of v false) then literal_of v false ∷ [] else [])
    (λ ls. Contains ls l → IsEntailedAt F v l)
    (alone true)
    (λ _. cond_both (entails F (literal_of v false)) (literal_of v false ∷ []) []
    (λ ls. Contains ls l → IsEntailedAt F v l)
    (alone false)
    (λ _ none. absurd (Contains-nil l none)))
    here

pub record IsEntailedUpto (F : Cnf) (n : ℕ) (l : Literal) : Type 0 where
  pub within : IsWithin n l
  pub entailed : Entails F l

entailed_of_backbone_upto : (F : Cnf) (n : ℕ) (l : Literal) → Contains (backbone_upto F n) l
    → IsEntailedUpto F n l
unfolding backbone_upto
entailed_of_backbone_upto F zero l here = absurd (Contains-nil l here)
entailed_of_backbone_upto F (suc n) l here =
    ⊎_elim
    (λ (before : Contains (backbone_upto F n) l).
    let found = entailed_of_backbone_upto F n l before in
    record { within = record { low = found.within.low; high = omega arith }; entailed = found.entailed })
    (λ (last : Contains (backbone_at F (suc n)) l).
    let found = entailed_of_backbone_at F (suc n) l last in
    record { within = record { low = omega arith; high = omega arith }; entailed = found.entailed })
    (Contains-append_cases (backbone_upto F n) (backbone_at F (suc n)) l here)

-- the variable of the first literal is the smaller
abbrev IsBelow : Literal → Literal → Type 0
IsBelow k l = k.var < l.var

HoldsOnward-backbone_at : (F : Cnf) (v : ℕ) → HoldsOnward IsBelow (backbone_at F v)
unfolding backbone_at
HoldsOnward-backbone_at F v =
    let alone : (l : Literal)
    → HoldsOnward IsBelow (l ∷ []) = λ l. (λ k none. absurd (Contains-nil k none), tt) in
    cond_both (entails F (literal_of v true)) (literal_of v true ∷ [])
    (if entails F (literal_of v false) then literal_of v false ∷ [] else [])
    (HoldsOnward IsBelow)
    (λ _. alone (literal_of v true))
    (λ _. cond_both (entails F (literal_of v false)) (literal_of v false ∷ []) [] (HoldsOnward IsBelow)
    (λ _. alone (literal_of v false))
    (λ _. tt))

HoldsOnward-backbone_upto : (F : Cnf) (n : ℕ) → HoldsOnward IsBelow (backbone_upto F n)
unfolding backbone_upto
HoldsOnward-backbone_upto F zero = tt
HoldsOnward-backbone_upto F (suc n) =
    HoldsOnward-append IsBelow (backbone_upto F n) (backbone_at F (suc n))
    (HoldsOnward-backbone_upto F n) (HoldsOnward-backbone_at F (suc n))
    (λ k l first second.
    let below : k.var ≤ n = (entailed_of_backbone_upto F n k first).within.high in
    let last : l.var ≡ suc n = (entailed_of_backbone_at F (suc n) l second).var_is in
    omega arith)

pub Contains-backbone : (F : Cnf) (a : Assignment) (l : Literal) → IsModel F a → IsWithin F.vars l
    → Entails F l → Contains (backbone F) l
Contains-backbone F a l model within entailed =
    let own : true_literal a l.var ≡ l = true_literal_of_is_true a l (entails_at F l a entailed model) in
    subst (λ ls. Contains ls l) (sym (backbone_of_model F a model))
    (Contains-filter (entails F) (true_literals a F.vars) l
    (subst (λ k. Contains (true_literals a F.vars) k) own
    (Contains-true_literals a F.vars l.var within.low within.high))
    entailed)

pub entailed_of_backbone : (F : Cnf) (l : Literal) → Contains (backbone F) l → IsEntailedUpto F F.vars l
unfolding backbone
entailed_of_backbone F l here = entailed_of_backbone_upto F F.vars l here

pub backbone_rises : (F : Cnf) → RisesByVar (backbone F)
unfolding backbone
backbone_rises F = AllPairs_of_HoldsOnward IsBelow (backbone_upto F F.vars) (HoldsOnward-backbone_upto F F.vars)

pub backbone_within : (F : Cnf) → AreWithin F.vars (backbone F)
backbone_within F k d here =
    (entailed_of_backbone F (get_or (backbone F) k d) (Contains-get_or (backbone F) k d here)).within

pub is_backbone : BackboneByMembers
is_backbone F a model = record {
  rises = backbone_rises F;
  within = backbone_within F;
  just = λ l within. (λ here. (entailed_of_backbone F l here).entailed, Contains-backbone F a l model within);
}

pub entailed_by_refutation : EntailedByRefutation
entailed_by_refutation F l =
    let denied : Literals = negated l ∷ [] in (
      λ entailed. models-nil (with_clause F denied)
          (λ a model.
          let both = model_of_with_clause F denied a model in
          let holds : is_true a l ≡ true = entails_at F l a entailed both.is_model in
          let fails : not (is_true a l) || false ≡ true = sym (ap (λ b. b || false) (is_true-negated a l)) ∙ both.holds in
          true≢false (sym fails ∙ ap (λ b. not b || false) holds)),
      λ empty. entails_by F l
          (λ a model. true_from_ne_false (is_true a l)
          (λ fails. no_model (with_clause F denied) a empty
          (with_clause_model F denied a model
          (ap (λ b. b || false) (is_true-negated a l) ∙ ap (λ b. not b || false) fails)))),
    )
