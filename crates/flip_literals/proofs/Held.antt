-- A flip by the clauses in which the variable's true literal stands: all others keep the literal that they had.
use Rattle.std.proofs.Common.{◌≡◌, ◌≢◌, ℕ, ◌+◌, ◌-◌, ◌<◌, ◌≤◌, ◌⊎◌, inl, inr, arith, false, not, IsTrue, List, [], length, All, Contains, get_or, sym, ap, ◌∙◌, subst, ⊎_elim, length-set}
use Rattle.std.proofs.lemmas.Bool.{cases_eq, cases_lt, both_ways}
use Rattle.std.proofs.lemmas.List.{get_or_default}
use Rattle.std.proofs.lemmas.List.Elements.{All-contains, Contains-get_or}
use Rattle.cnf_core.specs.Literals.{Literal, Literals, Assignment, value_of, is_true, clause_true, IsWithin, AreWithin}
use Rattle.cnf_core.specs.Formulas.{Cnf, IsModel, true_literal}
use Rattle.cnf_core.proofs.Lists.{passes_of_list_all, list_all_of_members, member_of_list_any, list_any_of_member}
use Rattle.cnf_core.proofs.Truth.{literal_of, value_of-with_value_other, is_true_same, true_literal_of_is_true}
use Rattle.model_check.specs.Flips.{flipped}
use Rattle.flip_literals.specs.Listings.{Listing, clause_at, StandsAt, ListsPlaces}
use Rattle.flip_literals.specs.Steps.Listed.{IsAround}

-- the clause at the place of a member
clause_of_member : (F : Cnf) (c : Literals) (here : Contains F.clauses c) → clause_at F here.0 ≡ c
clause_of_member F c here = get_or_default F.clauses here.0 [] c here.1 ∙ here.2

-- where it is true in each clause of its literal, the flip leaves a model
pub model_of_places : (F : Cnf) (a first : Assignment) (v : ℕ) → IsModel F a → All (AreWithin F.vars) F.clauses
    → 0 < v → value_of a v ≡ value_of first v
    → ((p : ℕ) → StandsAt F first v p → IsTrue (clause_true (flipped a v) (clause_at F p)))
    → IsModel F (flipped a v)
model_of_places F a first v model within low same each = record {
  values = length-set a (v - 1) (not (value_of a v)) ∙ model.values;
  satisfied = list_all_of_members (clause_true (flipped a v)) F.clauses (λ c here. holds c here);
}
  where
    own_holds : (c : Literals) (k : Literal) → Contains F.clauses c → Contains c k → true_literal a v ≡ k
        → IsTrue (clause_true (flipped a v) c)
    own_holds c k here there own =
        let is : clause_at F here.0 ≡ c = clause_of_member F c here in
        let own_first : k ≡ true_literal first v = sym own ∙ ap (literal_of v) same in
        let at_place : Contains (clause_at F here.0) (true_literal first v) =
        subst (λ (d : Literals). Contains d (true_literal first v)) (sym is) (subst (λ l. Contains c l) own_first there) in
        subst (λ d. IsTrue (clause_true (flipped a v) d)) is
        (each here.0 (record { within = here.1; here = at_place }))

    other_holds : (c : Literals) (k : Literal) → Contains c k → IsTrue (is_true a k) → 0 < k.var → k.var ≢ v
        → IsTrue (clause_true (flipped a v) c)
    other_holds c k there holds low_k other =
        list_any_of_member (is_true (flipped a v)) c k there
        (is_true_same a (flipped a v) k (value_of-with_value_other a v k.var (not (value_of a v)) low low_k other) ∙ holds)

    holds : (c : Literals) → Contains F.clauses c → IsTrue (clause_true (flipped a v) c)
    holds c here =
        let (k, there, true_there) =
        member_of_list_any (is_true a) c (passes_of_list_all (clause_true a) F.clauses c model.satisfied here) in
        let k_within : IsWithin F.vars k =
        All-contains (IsWithin F.vars) c k (All-contains (AreWithin F.vars) F.clauses c within here) there in
        ⊎_elim
        (λ (own : k.var ≡ v).
        own_holds c k here there (subst (λ w. true_literal a w ≡ k) own (true_literal_of_is_true a k true_there)))
        (λ (other : k.var ≢ v). other_holds c k there true_there k_within.low other)
        (cases_eq k.var v)

-- a clause that fails leaves none
pub no_model_at : (F : Cnf) (b : Assignment) (p : ℕ) → p < length F.clauses → clause_true b (clause_at F p) ≡ false
    → IsModel F b → ⊥
no_model_at F b p below fails model =
    both_ways (clause_true b (clause_at F p)) fails
    (passes_of_list_all (clause_true b) F.clauses (clause_at F p) model.satisfied (Contains-get_or F.clauses p [] below))

-- each listed place is one of the literal's
pub place_stands : (o : Listing) (v k : ℕ) (places : List ℕ) → ListsPlaces o v places → k < length places
    → StandsAt o.formula o.first v (get_or places k 0)
place_stands o v k places lists below = (lists (get_or places k 0)).0 (Contains-get_or places k 0 below)

-- what holds at each listed place holds at each of the literal's
pub places_hold : (o : Listing) (v : ℕ) (places : List ℕ) (b : Assignment) → ListsPlaces o v places
    → ((k : ℕ) → k < length places → IsTrue (clause_true b (clause_at o.formula (get_or places k 0))))
    → (p : ℕ) → StandsAt o.formula o.first v p → IsTrue (clause_true b (clause_at o.formula p))
places_hold o v places b lists each p stands =
    let here = (lists p).1 stands in
    let is : get_or places here.0 0 ≡ p = sym (get_or_default places here.0 p 0 here.1) ∙ here.2 in
    subst (λ q. IsTrue (clause_true b (clause_at o.formula q))) is (each here.0 here.1)

-- a place of a list of so many was reached by so many steps from the first one on
pub record HasCome (start step count k : ℕ) : Type 0 where
  pub within : k < count
  pub come : ((start ≤ k) × (k < start + step)) ⊎ (k + count < start + step)

pub come-more : (start step count at k : ℕ) → IsAround start step count at → HasCome start (step + 1) count k
    → (k ≡ at) ⊎ HasCome start step count k
come-more start step count at k around come =
    ⊎_elim
    (λ (same : k ≡ at). inl same)
    (λ (other : k ≢ at). inr (record { within = come.within; come = earlier other }))
    (cases_eq k at)
  where
    earlier : k ≢ at → ((start ≤ k) × (k < start + step)) ⊎ (k + count < start + step)
    earlier other =
        ⊎_elim
        (λ (own : (start ≤ k) × (k < start + (step + 1))).
        ⊎_elim
        (λ (straight : at ≡ start + step). inl (own.0, omega (arith, own.1, straight, other)))
        (λ (turned : at + count ≡ start + step). inl (own.0, omega (arith, own.1, turned, come.within)))
        around.is)
        (λ (passed : k + count < start + (step + 1)).
        ⊎_elim
        (λ (straight : at ≡ start + step). inr (omega (arith, passed, straight, around.within)))
        (λ (turned : at + count ≡ start + step). inr (omega (arith, passed, turned, other)))
        around.is)
        come.come

pub come-all : (start step count k : ℕ) → count ≤ step → k < count → HasCome start step count k
come-all start step count k all below = record {
  within = below;
  come =
      ⊎_elim
      (λ (before : k < start). inr (omega (arith, all, before)))
      (λ (behind : start ≤ k). inl (behind, omega (arith, all, below)))
      (cases_lt k start);
}
