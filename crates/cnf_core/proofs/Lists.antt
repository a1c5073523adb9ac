-- Membership in lists that are made of others, and tests of all their elements.
use Rattle.std.proofs.Common.{◌≡◌, zero, suc, Bool, ◌⊎◌, IsTrue, List, [], ◌∷◌, ◌++◌, length, get_or, AllPairs, Contains, filter, flat_map, refl, sym, ap, ◌∙◌, subst, inl, inr, ⊎_elim, zero-lt-suc, arith}
use Rattle.std.specs.List.{list_all, list_any}
use Rattle.std.proofs.lemmas.Bool.{and_parts, and_from, cond-true, cond_both, or_cases, or_left, or_right, true≢false}
use Rattle.std.proofs.lemmas.List.{length_push}
use Rattle.std.proofs.lemmas.List.Elements.{Contains-get_or, Contains-append_left, Contains-append_right, Contains-append_cases}

-- the first element is a member
pub Contains-head : {X : Type 0} (x : X) (xs : List X) → Contains (x ∷ xs) x
Contains-head x xs = (0, zero-lt-suc (length xs), refl)

-- and so is each later one
pub Contains-tail : {X : Type 0} (y : X) (xs : List X) (x : X) → Contains xs x → Contains (y ∷ xs) x
Contains-tail y xs x (k, lt, is) = (suc k, omega arith, is)

pub Contains-cons_cases : {X : Type 0} (y : X) (xs : List X) (x : X) → Contains (y ∷ xs) x
    → (y ≡ x) ⊎ Contains xs x
Contains-cons_cases y xs x (zero, lt, is) = inl is
Contains-cons_cases y xs x (suc k, lt, is) = inr (k, omega arith, is)

pub Contains-nil : {X : Type 0} (x : X) → Contains [] x → ⊥
Contains-nil x (k, lt, is) = omega arith

-- a list without members is empty
pub nil_without_members : {X : Type 0} (xs : List X) → ((x : X) → Contains xs x → ⊥) → xs ≡ []
nil_without_members [] none = refl
nil_without_members (x ∷ xs) none = absurd (none x (Contains-head x xs))

-- what a filter keeps is in the list and passes
pub Contains-filter : {X : Type 0} (p : X → Bool) (xs : List X) (x : X) → Contains xs x → IsTrue (p x)
    → Contains (filter p xs) x
Contains-filter p [] x here passes = here
Contains-filter p (y ∷ xs) x here passes =
    let first : y ≡ x → Contains (filter p (y ∷ xs)) x =
    λ is. rw (cond-true (p y) (y ∷ filter p xs) (filter p xs) (ap p is ∙ passes))
    (subst (λ z. Contains (y ∷ filter p xs) z) is (Contains-head y (filter p xs)))
    in
    ⊎_elim first
    (λ (later : Contains xs x).
    cond_both (p y) (y ∷ filter p xs) (filter p xs) (λ zs. Contains zs x)
    (λ _. Contains-tail y (filter p xs) x (Contains-filter p xs x later passes))
    (λ _. Contains-filter p xs x later passes))
    (Contains-cons_cases y xs x here)

pub record IsKept {X : Type 0} (p : X → Bool) (xs : List X) (x : X) : Type 0 where
  pub member : Contains xs x
  pub passes : IsTrue (p x)

pub kept_of_Contains-filter : {X : Type 0} (p : X → Bool) (xs : List X) (x : X) → Contains (filter p xs) x
    → IsKept p xs x
kept_of_Contains-filter p [] x here = absurd (Contains-nil x here)
kept_of_Contains-filter p (y ∷ xs) x here =
    let later : Contains (filter p xs) x → IsKept p (y ∷ xs) x =
    λ there. (let kept = kept_of_Contains-filter p xs x there in
    record { member = Contains-tail y xs x kept.member; passes = kept.passes })
    in
    cond_both (p y) (y ∷ filter p xs) (filter p xs) (λ zs. Contains zs x → IsKept p (y ∷ xs) x)
    (λ passes there. ⊎_elim
    (λ (is : y ≡ x). record {
      member = subst (λ z. Contains (y ∷ xs) z) is (Contains-head y xs);
      passes = ap p (sym is) ∙ passes;
    })
    later
    (Contains-cons_cases y (filter p xs) x there))
    (λ _. later)
    here

-- a member of one of the parts is a member of the whole
pub Contains-flat_map : {X A : Type 0} (f : X → List A) (xs : List X) (x : X) (a : A) → Contains xs x
    → Contains (f x) a → Contains (flat_map f xs) a
Contains-flat_map f [] x a here part = absurd (Contains-nil x here)
Contains-flat_map f (y ∷ xs) x a here part =
    ⊎_elim
    (λ (is : y ≡ x). Contains-append_left (f y) (flat_map f xs) a (subst (λ z. Contains (f z) a) (sym is) part))
    (λ (later : Contains xs x).
    Contains-append_right (f y) (flat_map f xs) a (Contains-flat_map f xs x a later part))
    (Contains-cons_cases y xs x here)

-- the part that has a member of the whole
pub part_of_Contains-flat_map : {X A : Type 0} (f : X → List A) (xs : List X) (a : A)
    → Contains (flat_map f xs) a → (x : X) × Contains xs x × Contains (f x) a
part_of_Contains-flat_map f [] a here = absurd (Contains-nil a here)
part_of_Contains-flat_map {X} f (y ∷ xs) a here =
    ⊎_elim
    (λ (first : Contains (f y) a). (y, Contains-head y xs, first))
    (λ (later : Contains (flat_map f xs) a).
    let (x, there, part) = part_of_Contains-flat_map f xs a later in
    (x, Contains-tail y xs x there, part))
    (Contains-append_cases (f y) (flat_map f xs) a here)

-- each element passes
pub passes_of_list_all : {X : Type 0} (p : X → Bool) (xs : List X) (x : X) → IsTrue (list_all p xs) → Contains xs x
    → IsTrue (p x)
passes_of_list_all p [] x all here = absurd (Contains-nil x here)
passes_of_list_all p (y ∷ xs) x all here =
    let both = and_parts (p y) (list_all p xs) all in
    ⊎_elim
    (λ (is : y ≡ x). ap p (sym is) ∙ both.0)
    (λ (later : Contains xs x). passes_of_list_all p xs x both.1 later)
    (Contains-cons_cases y xs x here)

pub list_all_of_members : {X : Type 0} (p : X → Bool) (xs : List X) → ((x : X) → Contains xs x → IsTrue (p x))
    → IsTrue (list_all p xs)
list_all_of_members p [] each = refl
list_all_of_members p (y ∷ xs) each =
    and_from (p y) (list_all p xs) (each y (Contains-head y xs))
    (list_all_of_members p xs (λ x here. each x (Contains-tail y xs x here)))

-- some element passes
pub list_any_of_member : {X : Type 0} (p : X → Bool) (xs : List X) (x : X) → Contains xs x → IsTrue (p x)
    → IsTrue (list_any p xs)
list_any_of_member p [] x here passes = absurd (Contains-nil x here)
list_any_of_member p (y ∷ xs) x here passes =
    ⊎_elim
    (λ (is : y ≡ x). or_left (p y) (list_any p xs) (ap p is ∙ passes))
    (λ (later : Contains xs x). or_right (p y) (list_any p xs) (list_any_of_member p xs x later passes))
    (Contains-cons_cases y xs x here)

pub member_of_list_any : {X : Type 0} (p : X → Bool) (xs : List X) → IsTrue (list_any p xs)
    → (x : X) × Contains xs x × IsTrue (p x)
member_of_list_any p [] some = absurd (true≢false (sym some))
member_of_list_any p (y ∷ xs) some =
    ⊎_elim
    (λ (first : IsTrue (p y)). (y, Contains-head y xs, first))
    (λ (later : IsTrue (list_any p xs)).
    let (x, there, passes) = member_of_list_any p xs later in
    (x, Contains-tail y xs x there, passes))
    (or_cases (p y) (list_any p xs) some)

-- lists with one element more are equal only where they were equal before
pub front_of_push : {X : Type 0} (xs ys : List X) (x y : X) → xs ++ x ∷ [] ≡ ys ++ y ∷ [] → xs ≡ ys
front_of_push [] [] x y same = refl
front_of_push [] (b ∷ ys) x y same = absurd (omega (arith, ap length same, length_push ys y))
front_of_push (a ∷ xs) [] x y same = absurd (omega (arith, ap length same, length_push xs x))
front_of_push (a ∷ xs) (b ∷ ys) x y same =
    let rest : xs ++ x ∷ [] ≡ ys ++ y ∷ [] = cc in
    let fronts : xs ≡ ys = front_of_push xs ys x y rest in
    cc

-- R holds of each element and each one after it: `AllPairs` by recursion on the list
abbrev pub HoldsOnward : {X : Type 0} → (X → X → Type 0) → List X → Type 0
HoldsOnward R [] = Unit {0}
HoldsOnward {X} R (x ∷ xs) = ((y : X) → Contains xs y → R x y) × HoldsOnward R xs

pub AllPairs_of_HoldsOnward : {X : Type 0} (R : X → X → Type 0) (xs : List X) → HoldsOnward R xs
    → AllPairs R xs
AllPairs_of_HoldsOnward R [] holds i j d before within = absurd (omega arith)
AllPairs_of_HoldsOnward R (x ∷ xs) holds i zero d before within = absurd (omega arith)
AllPairs_of_HoldsOnward R (x ∷ xs) holds zero (suc j) d before within =
    holds.0 (get_or xs j d) (Contains-get_or xs j d (omega arith))
AllPairs_of_HoldsOnward R (x ∷ xs) holds (suc i) (suc j) d before within =
    AllPairs_of_HoldsOnward R xs holds.1 i j d (omega arith) (omega arith)

pub HoldsOnward-append : {X : Type 0} (R : X → X → Type 0) (xs ys : List X) → HoldsOnward R xs
    → HoldsOnward R ys
    → ((x y : X) → Contains xs x → Contains ys y → R x y) → HoldsOnward R (xs ++ ys)
HoldsOnward-append R [] ys first second across = second
HoldsOnward-append R (x ∷ xs) ys first second across = (
  λ y here. ⊎_elim
      (λ (in_first : Contains xs y). first.0 y in_first)
      (λ (in_second : Contains ys y). across x y (Contains-head x xs) in_second)
      (Contains-append_cases xs ys y here),
  HoldsOnward-append R xs ys first.1 second (λ z y there. across z y (Contains-tail x xs z there)),
)
