-- What is known once the first k assignments are looked at, and once all are.
use Rattle.std.proofs.Common.{◌≡◌, ℕ, zero, suc, ◌^◌, ◌<◌, ◌≤◌, Bool, true, false, cond, not, ◌&&◌, ◌||◌, if◌then◌else◌, IsTrue}
use Rattle.std.proofs.Common.{IsNone, IfSome, List, [], ◌∷◌, ◌++◌, filter, ◌↔◌, Option, Global, MatchOption, None, Some, Vec, refl}
use Rattle.std.proofs.Common.{sym, ap, ap₂, ◌∙◌, subst, ⊎_elim, eq-or-lt_of_le, arith}
use Rattle.std.proofs.Math.Bool.{and-true}
use Rattle.std.proofs.lemmas.Bool.{cases_Bool, and_parts, and_from, or_left, or_right, both_ways, cond-true, false_from_ne_true, false≢true}
use Rattle.std.proofs.lemmas.List.Elements.{filter_agree, filter-append, All-filter}
use Rattle.cnf_core.specs.Literals.{Literal, Literals, Assignment, value_of, is_true, all_true, IsWithin, AreWithin}
use Rattle.cnf_core.specs.Formulas.{Cnf, models, IsModel, entails, backbone, true_literal, true_literals}
use Rattle.cnf_core.proofs.Truth.{true_literals_within}
use Rattle.cnf_core.proofs.Models.{models-nil, no_model, entails_by, entails_at}
use Rattle.cnf_core.proofs.Backbones.{backbone_of_model}
use Rattle.backbone_main.specs.Steps.Numbered.{assignment_at}
use Rattle.backbone_main.proofs.Numbering.{length-assignment_at, number_of_values, assignment_at-number_of_values, number_of_values-lt}

-- whether the assignment with this number makes every clause true
abbrev pub holds_at : Cnf → ℕ → Bool
holds_at F k = all_true (assignment_at F.vars k) F.clauses

-- none of the first k assignments is a model
pub record HasNoneBelow (F : Cnf) (k : ℕ) : Type 0 where
  pub none : (j : ℕ) → j < k → holds_at F j ≡ false

-- whether the literal is true in each model among the first k assignments
abbrev pub common_below : Cnf → ℕ → Literal → Bool
common_below F zero l = true
common_below F (suc k) l = common_below F k l && (not (holds_at F k) || is_true (assignment_at F.vars k) l)

-- one of the first k assignments is a model, and of its literals these are true in all such models
pub record HasCommonBelow (F : Cnf) (k : ℕ) (lits : Literals) : Type 0 where
  pub first : Assignment
  pub is_model : IsModel F first
  pub kept : lits ≡ filter (common_below F k) (true_literals first F.vars)

-- what is known of the first k assignments
abbrev pub IsKnownBelow : Cnf → ℕ → Option (Vec Literal Global) → Type 0
IsKnownBelow F k common = MatchOption common (HasNoneBelow F k) (λ lits. HasCommonBelow F k lits.items)

filter-filter : {X : Type 0} (p q : X → Bool) (xs : List X) → filter q (filter p xs) ≡ filter (λ x. p x && q x) xs
filter-filter p q [] = refl
filter-filter p q (x ∷ xs) =
    both (p x) ∙ ap (λ rest. cond (p x && q x) (x ∷ rest) rest) (filter-filter p q xs)
  where
    both : (keeps : Bool)
        → filter q (cond keeps (x ∷ filter p xs) (filter p xs))
        ≡ cond (keeps && q x) (x ∷ filter q (filter p xs)) (filter q (filter p xs))
    both true = refl
    both false = refl

-- each true literal is true
filter-true_literals : (a : Assignment) (n : ℕ) → filter (is_true a) (true_literals a n) ≡ true_literals a n
unfolding true_literals
filter-true_literals a zero = refl
filter-true_literals a (suc n) =
    filter-append (is_true a) (true_literals a n) (true_literal a (suc n) ∷ [])
    ∙ ap₂ (λ front last. front ++ last) (filter-true_literals a n)
    (cond-true (is_true a (true_literal a (suc n))) (true_literal a (suc n) ∷ []) [] (own (value_of a (suc n))))
  where
    own : (value : Bool) → (if value then value else not value) ≡ true
    own true = refl
    own false = refl

-- the step at an assignment that is no model
common_below-skip : (F : Cnf) (k : ℕ) → holds_at F k ≡ false → (l : Literal) → common_below F k l ≡ common_below F (suc k) l
common_below-skip F k fails l =
    sym (and-true (common_below F k l))
    ∙ ap (λ holds. common_below F k l && (not holds || is_true (assignment_at F.vars k) l)) (sym fails)

-- the step at one that is
common_below-model : (F : Cnf) (k : ℕ) → holds_at F k ≡ true
    → (l : Literal) → (common_below F k l && is_true (assignment_at F.vars k) l) ≡ common_below F (suc k) l
common_below-model F k holds l =
    ap (λ holds. common_below F k l && (not holds || is_true (assignment_at F.vars k) l)) (sym holds)

common_below-none : (F : Cnf) (k : ℕ) → HasNoneBelow F k → (l : Literal) → common_below F k l ≡ true
common_below-none F zero none l = refl
common_below-none F (suc k) none l =
    let before : HasNoneBelow F k = record { none = λ j below. none.none j (omega arith) } in
    sym (common_below-skip F k (none.none k (omega arith)) l) ∙ common_below-none F k before l

pub is_model_at : (F : Cnf) (k : ℕ) → holds_at F k ≡ true → IsModel F (assignment_at F.vars k)
is_model_at F k holds = record { values = length-assignment_at F.vars k; satisfied = holds }

-- a step of the loop
pub IsKnownBelow-skip : (F : Cnf) (k : ℕ) (common : Option (Vec Literal Global)) → holds_at F k ≡ false
    → IsKnownBelow F k common → IsKnownBelow F (suc k) common
IsKnownBelow-skip F k None fails known = record { none = λ j below. none_upto j (omega arith) }
  where
    none_upto : (j : ℕ) → j ≤ k → holds_at F j ≡ false
    none_upto j upto =
        ⊎_elim
        (λ (last : j ≡ k). subst (λ i. holds_at F i ≡ false) (sym last) fails)
        (λ (before : j < k). known.none j before)
        (eq-or-lt_of_le upto)
IsKnownBelow-skip F k (Some lits) fails known = record {
  first = known.first;
  is_model = known.is_model;
  kept = known.kept
      ∙ filter_agree (common_below F k) (common_below F (suc k)) (common_below-skip F k fails) (true_literals known.first F.vars);
}

-- what is made of the literals so far at a model
abbrev pub IsNarrowed : Assignment → ℕ → Option (Vec Literal Global) → Literals → Type 0
IsNarrowed a n common lits =
    MatchOption common (lits ≡ true_literals a n) (λ before. lits ≡ filter (is_true a) before.items)

pub IsKnownBelow-model : (F : Cnf) (k : ℕ) (common : Option (Vec Literal Global)) (lits : Vec Literal Global)
    → holds_at F k ≡ true → IsKnownBelow F k common → IsNarrowed (assignment_at F.vars k) F.vars common lits.items
    → IsKnownBelow F (suc k) (Some lits)
IsKnownBelow-model F k None lits holds known narrowed =
    let a : Assignment = assignment_at F.vars k in
    record {
      first = a;
      is_model = is_model_at F k holds;
      kept = narrowed ∙ sym (filter-true_literals a F.vars)
          ∙ filter_agree (is_true a) (common_below F (suc k))
          (λ l. ap (λ before. before && is_true a l) (sym (common_below-none F k known l)) ∙ common_below-model F k holds l)
          (true_literals a F.vars);
    }
IsKnownBelow-model F k (Some before) lits holds known narrowed =
    let a : Assignment = assignment_at F.vars k in
    record {
      first = known.first;
      is_model = known.is_model;
      kept = narrowed ∙ ap (filter (is_true a)) known.kept
          ∙ filter-filter (common_below F k) (is_true a) (true_literals known.first F.vars)
          ∙ filter_agree (λ l. common_below F k l && is_true a l) (common_below F (suc k)) (common_below-model F k holds)
          (true_literals known.first F.vars);
    }

pub within_of_IsKnownBelow : (F : Cnf) (k : ℕ) (common : Option (Vec Literal Global)) (lits : Vec Literal Global)
    → IsKnownBelow F k common → common ≡ Some lits → AreWithin F.vars lits.items
within_of_IsKnownBelow F k None lits known is = absurd (cc)
within_of_IsKnownBelow F k (Some before) lits known is =
    let same : before ≡ lits = cc in
    subst (λ (v : Vec Literal Global). AreWithin F.vars v.items) same
    (subst (AreWithin F.vars) (sym known.kept)
    (All-filter (common_below F k) (IsWithin F.vars) (true_literals known.first F.vars)
    (true_literals_within known.first F.vars)))

-- each model is one of all the assignments
at_each_model : (F : Cnf) (P : Assignment → Type 0)
    → ((k : ℕ) → k < 2 ^ F.vars → holds_at F k ≡ true → P (assignment_at F.vars k)) → (a : Assignment) → IsModel F a → P a
at_each_model F P each a model =
    let is : assignment_at F.vars (number_of_values a) ≡ a =
    subst (λ n. assignment_at n (number_of_values a) ≡ a) model.values (assignment_at-number_of_values a) in
    let below : number_of_values a < 2 ^ F.vars =
    subst (λ n. number_of_values a < 2 ^ n) model.values (number_of_values-lt a) in
    subst P is
    (each (number_of_values a) below (subst (λ b. all_true b F.clauses ≡ true) (sym is) model.satisfied))

common_below_at : (F : Cnf) (n k : ℕ) (l : Literal) → common_below F n l ≡ true → k < n → holds_at F k ≡ true
    → IsTrue (is_true (assignment_at F.vars k) l)
common_below_at F zero k l common below holds = absurd (omega arith)
common_below_at F (suc n) k l common below holds =
    let upto : k ≤ n = omega arith in
    let parts = and_parts (common_below F n l) (not (holds_at F n) || is_true (assignment_at F.vars n) l) common in
    ⊎_elim
    (λ (last : k ≡ n).
    subst (λ i. IsTrue (is_true (assignment_at F.vars i) l)) (sym last)
    (sym (ap (λ b. not b || is_true (assignment_at F.vars n) l) (subst (λ i. holds_at F i ≡ true) last holds)) ∙ parts.1))
    (λ (before : k < n). common_below_at F n k l parts.0 before holds)
    (eq-or-lt_of_le upto)

common_below_by : (F : Cnf) (n : ℕ) (l : Literal)
    → ((k : ℕ) → k < n → holds_at F k ≡ true → IsTrue (is_true (assignment_at F.vars k) l)) → common_below F n l ≡ true
common_below_by F zero l each = refl
common_below_by F (suc n) l each =
    and_from (common_below F n l) (not (holds_at F n) || is_true (assignment_at F.vars n) l)
    (common_below_by F n l (λ k below. each k (omega arith)))
    (⊎_elim
    (λ (holds : holds_at F n ≡ true).
    or_right (not (holds_at F n)) (is_true (assignment_at F.vars n) l) (each n (omega arith) holds))
    (λ (fails : holds_at F n ≡ false).
    or_left (not (holds_at F n)) (is_true (assignment_at F.vars n) l) (ap not fails))
    (cases_Bool (holds_at F n)))

-- once all are looked at, what is common is what is entailed
common_below-all : (F : Cnf) (l : Literal) → common_below F (2 ^ F.vars) l ≡ entails F l
common_below-all F l =
    same_tests (common_below F (2 ^ F.vars) l) (entails F l)
    (λ common. entails_by F l
    (at_each_model F (λ a. IsTrue (is_true a l)) (λ k below holds. common_below_at F (2 ^ F.vars) k l common below holds)))
    (λ entailed. common_below_by F (2 ^ F.vars) l
    (λ k below holds. entails_at F l (assignment_at F.vars k) entailed (is_model_at F k holds)))
  where
    same_tests : (b c : Bool) → (b ≡ true → c ≡ true) → (c ≡ true → b ≡ true) → b ≡ c
    same_tests true c to from = sym (to refl)
    same_tests false c to from = sym (false_from_ne_true c (λ holds. false≢true (from holds)))

pub unsatisfiable_of_IsKnownBelow : (F : Cnf) (common : Option (Vec Literal Global)) → IsKnownBelow F (2 ^ F.vars) common
    → IsNone common ↔ (models F ≡ [])
unsatisfiable_of_IsKnownBelow F None known = (
  λ _. models-nil F
      (at_each_model F (λ _. ⊥) (λ k below holds. both_ways (holds_at F k) (known.none k below) holds)),
  λ _. refl,
)
unsatisfiable_of_IsKnownBelow F (Some lits) known =
    (λ none. absurd (cc), λ empty. absurd (no_model F known.first empty known.is_model))

pub backbone_of_IsKnownBelow : (F : Cnf) (common : Option (Vec Literal Global)) → IsKnownBelow F (2 ^ F.vars) common
    → IfSome common (λ lits. lits.items ≡ backbone F)
backbone_of_IsKnownBelow F None known = tt
backbone_of_IsKnownBelow F (Some lits) known =
    known.kept
    ∙ filter_agree (common_below F (2 ^ F.vars)) (entails F) (common_below-all F) (true_literals known.first F.vars)
    ∙ sym (backbone_of_model F known.first known.is_model)
