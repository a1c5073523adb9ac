-- The list of all assignments: each list of n truth values is there, no other is, and none twice.
use Rattle.std.proofs.Common.{◌≡◌, ℕ, zero, suc, ◌<◌, Bool, true, false, List, [], ◌∷◌, ◌++◌, length, get_or, take, Contains, flat_map, refl, sym, ap, ◌∙◌, subst, ⊎_elim, take-suc, take_all, length-take-le, arith}
use Rattle.std.proofs.lemmas.List.{length_push, append_cancel_left}
use Rattle.cnf_core.specs.Literals.{Assignment}
use Rattle.cnf_core.specs.Formulas.{both_ways, assignments}
use Rattle.cnf_core.specs.Laws.{HasEachOnce}
use Rattle.cnf_core.proofs.Lists.{Contains-head, Contains-tail, Contains-cons_cases, Contains-nil, Contains-flat_map, part_of_Contains-flat_map, front_of_push, HoldsOnward, AllPairs_of_HoldsOnward}

Contains-both_ways : (a : Assignment) (value : Bool) → Contains (both_ways a) (a ++ value ∷ [])
Contains-both_ways a false = Contains-head (a ++ false ∷ []) ((a ++ true ∷ []) ∷ [])
Contains-both_ways a true =
    Contains-tail (a ++ false ∷ []) ((a ++ true ∷ []) ∷ []) (a ++ true ∷ []) (Contains-head (a ++ true ∷ []) [])

-- what is one of the two is a with one value more
value_of_Contains-both_ways : (a b : Assignment) → Contains (both_ways a) b
    → (value : Bool) × (a ++ value ∷ [] ≡ b)
value_of_Contains-both_ways a b here =
    ⊎_elim
    (λ (is : a ++ false ∷ [] ≡ b). (false, is))
    (λ (later : Contains ((a ++ true ∷ []) ∷ []) b). (
      true,
      ⊎_elim
          (λ (is : a ++ true ∷ [] ≡ b). is)
          (λ (none : Contains [] b). absurd (Contains-nil b none))
          (Contains-cons_cases (a ++ true ∷ []) [] b later),
    ))
    (Contains-cons_cases (a ++ false ∷ []) ((a ++ true ∷ []) ∷ []) b here)

-- each list of n values is there
pub Contains-assignments : (n : ℕ) (a : Assignment) → length a ≡ n → Contains (assignments n) a
unfolding assignments
Contains-assignments zero [] long = Contains-head [] []
Contains-assignments zero (value ∷ a) long = absurd (omega arith)
Contains-assignments (suc n) a long =
    let last : n < length a = omega arith in
    let whole : a ≡ take n a ++ get_or a n false ∷ [] =
    sym (take_all (suc n) a (omega arith)) ∙ take-suc a n false last in
    let front : Contains (assignments n) (take n a) =
    Contains-assignments n (take n a) (length-take-le n a (omega arith)) in
    subst (λ z. Contains (flat_map both_ways (assignments n)) z) (sym whole)
    (Contains-flat_map both_ways (assignments n) (take n a) (take n a ++ get_or a n false ∷ []) front
    (Contains-both_ways (take n a) (get_or a n false)))

-- no other list is
pub length_of_Contains-assignments : (n : ℕ) (a : Assignment) → Contains (assignments n) a → length a ≡ n
unfolding assignments
length_of_Contains-assignments zero a here =
    ⊎_elim (λ (is : [] ≡ a). ap length (sym is)) (λ (none : Contains [] a). absurd (Contains-nil a none))
    (Contains-cons_cases [] [] a here)
length_of_Contains-assignments (suc n) a here =
    let (front, there, part) = part_of_Contains-flat_map both_ways (assignments n) a here in
    let (value, is) = value_of_Contains-both_ways front a part in
    omega (arith, ap length is, length_push front value, length_of_Contains-assignments n front there)

-- an assignment of the list made longer was there before, one value shorter
front_of_Contains-flat_map : (all : List Assignment) (a : Assignment) (value : Bool)
    → Contains (flat_map both_ways all) (a ++ value ∷ []) → Contains all a
front_of_Contains-flat_map all a value here =
    let (front, there, part) = part_of_Contains-flat_map both_ways all (a ++ value ∷ []) here in
    let (other, is) = value_of_Contains-both_ways front (a ++ value ∷ []) part in
    subst (λ z. Contains all z) (front_of_push front a other value is) there

-- one is not the other
abbrev IsOther : Assignment → Assignment → Type 0
IsOther a b = a ≡ b → ⊥

HoldsOnward-flat_map : (all : List Assignment) → HoldsOnward IsOther all
    → HoldsOnward IsOther (flat_map both_ways all)
HoldsOnward-flat_map [] apart = tt
HoldsOnward-flat_map (a ∷ all) apart =
    let later : (value : Bool) (b : Assignment) → Contains (flat_map both_ways all) b → a ++ value ∷ [] ≡ b
    → ⊥ =
    λ value b here same. apart.0 a
    (front_of_Contains-flat_map all a value (subst (λ z. Contains (flat_map both_ways all) z) (sym same) here)) refl
    in (
      λ b here. ⊎_elim
          (λ (second : a ++ true ∷ [] ≡ b) (same : a ++ false ∷ [] ≡ b).
          let values : false ∷ [] ≡ true ∷ [] =
          append_cancel_left a (false ∷ []) (true ∷ []) (same ∙ sym second) in
          cc)
          (λ (there : Contains (flat_map both_ways all) b). later false b there)
          (Contains-cons_cases (a ++ true ∷ []) (flat_map both_ways all) b here),
      (later true, HoldsOnward-flat_map all apart.1),
    )

HoldsOnward-assignments : (n : ℕ) → HoldsOnward IsOther (assignments n)
unfolding assignments
HoldsOnward-assignments zero = (λ b none. absurd (Contains-nil b none), tt)
HoldsOnward-assignments (suc n) = HoldsOnward-flat_map (assignments n) (HoldsOnward-assignments n)

pub each_once : (n : ℕ) → HasEachOnce n
each_once n = record {
  each = Contains-assignments n;
  only = length_of_Contains-assignments n;
  once = AllPairs_of_HoldsOnward IsOther (assignments n) (HoldsOnward-assignments n);
}
