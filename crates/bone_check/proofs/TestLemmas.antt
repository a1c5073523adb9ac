-- Verdicts of tests in a row, and of one test on each element of a list.
use Rattle.std.proofs.Common.{◌≡◌, ℕ, suc, zero, ◌+◌, ◌<◌, ◌≤◌, List, [], ◌∷◌, ◌++◌, Option, Some, None, length, take, drop, get_or, Contains, take-append-drop, refl, sym, ap, ◌∙◌, subst, ⊎_elim, arith}
use Rattle.std.proofs.lemmas.List.{take_more, drop_more, take_all}
use Rattle.std.proofs.Common.{length-take}
use Rattle.std.specs.Prelude.{slice_get}
use Rattle.std.proofs.lemmas.Option.{slice_get-get_or, get_or_from_slice_get}
use Rattle.cnf_core.proofs.Lists.{Contains-cons_cases, Contains-nil, Contains-head, Contains-tail}
use Rattle.bone_check.specs.declared.verdict.Reason.{Reason}
use Rattle.bone_check.specs.declared.verdict.Verdict.{Verdict}
use Rattle.bone_check.specs.declared.verdict.Verdict.TheVariants.{Verified, NotVerified}
use Rattle.bone_check.specs.Tests.{at_place, ◌then◌, each_from}

-- where tests in a row pass, each passes
pub verified_parts : (first later : Verdict) → (first then later) ≡ Verified → (first ≡ Verified) × (later ≡ Verified)
verified_parts Verified later both = (refl, both)
verified_parts (NotVerified reason place) later both = absurd (cc)

pub passed_at : (place : ℕ) (fault : Option Reason) → at_place place fault ≡ Verified → fault ≡ None
passed_at place None passed = refl
passed_at place (Some reason) passed = absurd (cc)

-- where a test passes on each element in turn, it passes on each
pub each_passed : {X : Type 0} (test : X → Option Reason) (place : ℕ) (xs : List X) (x : X)
    → each_from test place xs ≡ Verified → Contains xs x → test x ≡ None
each_passed test place [] x passed there = absurd (Contains-nil x there)
each_passed test place (y ∷ xs) x passed there =
    let parts = verified_parts (at_place place (test y)) (each_from test (place + 1) xs) passed in
    ⊎_elim
    (λ (is : y ≡ x). ap test (sym is) ∙ passed_at place (test y) parts.0)
    (λ (later : Contains xs x). each_passed test (place + 1) xs x parts.1 later)
    (Contains-cons_cases y xs x there)

-- and where it passes on each, it passes on each in turn
pub each_verified : {X : Type 0} (test : X → Option Reason) (place : ℕ) (xs : List X) → ((x : X) → Contains xs x → test x ≡ None)
    → each_from test place xs ≡ Verified
each_verified test place [] pass = refl
each_verified test place (x ∷ xs) pass =
    ap (λ (fault : Option Reason). at_place place fault then each_from test (place + 1) xs) (pass x (Contains-head x xs))
    ∙ each_verified test (place + 1) xs (λ y there. pass y (Contains-tail x xs y there))

then_assoc : (a b c : Verdict) → ((a then b) then c) ≡ (a then (b then c))
then_assoc Verified b c = refl
then_assoc (NotVerified reason place) b c = refl

-- the elements of one list, and then those of another
pub each_append : {X : Type 0} (test : X → Option Reason) (place : ℕ) (xs ys : List X)
    → each_from test place (xs ++ ys) ≡ (each_from test place xs then each_from test (place + length xs) ys)
each_append test place [] ys = ap (λ (p : ℕ). each_from test p ys) (omega arith)
each_append test place (x ∷ xs) ys =
    let next : place + 1 + length xs ≡ place + suc (length xs) = omega arith in
    ap (λ (v : Verdict). at_place place (test x) then v) (each_append test (place + 1) xs ys)
    ∙ sym (then_assoc (at_place place (test x)) (each_from test (place + 1) xs) (each_from test (place + 1 + length xs) ys))
    ∙ ap (λ (p : ℕ). each_from test place (x ∷ xs) then each_from test p ys) next

pub passes_alone : (place : ℕ) (fault : Option Reason) → fault ≡ None → (at_place place fault then Verified) ≡ Verified
passes_alone place fault none = rw none refl

pub fails_first : (place : ℕ) (fault : Option Reason) (reason : Reason) (later : Verdict) → fault ≡ Some reason
    → (at_place place fault then later) ≡ NotVerified reason place
fails_first place fault reason later some = rw some refl

-- one element more that passes
pub each_next : {X : Type 0} (test : X → Option Reason) (place : ℕ) (xs : List X) (i : ℕ) (x : X) → i < length xs
    → x ≡ get_or xs i x → each_from test place (take i xs) ≡ Verified → test x ≡ None
    → each_from test place (take (i + 1) xs) ≡ Verified
each_next test place xs i x lt is so_far passes =
    ap (each_from test place) (take_more xs i x lt ∙ ap (λ y. take i xs ++ y ∷ []) (sym is))
    ∙ each_append test place (take i xs) (x ∷ [])
    ∙ ap (λ (v : Verdict). v then each_from test (place + length (take i xs)) (x ∷ [])) so_far
    ∙ passes_alone (place + length (take i xs)) (test x) passes

-- the first element that fails
pub each_stop : {X : Type 0} (test : X → Option Reason) (place : ℕ) (xs : List X) (i : ℕ) (x : X) (reason : Reason)
    → i < length xs → x ≡ get_or xs i x → each_from test place (take i xs) ≡ Verified → test x ≡ Some reason
    → each_from test place xs ≡ NotVerified reason (place + i)
each_stop test place xs i x reason lt is so_far fails =
    let count : length (take i xs) ≡ i = omega (arith, length-take i xs) in
    ap (each_from test place) (sym (take-append-drop i xs) ∙ ap (λ rest. take i xs ++ rest) (drop_more xs i x lt)
    ∙ ap (λ y. take i xs ++ y ∷ drop (i + 1) xs) (sym is))
    ∙ each_append test place (take i xs) (x ∷ drop (i + 1) xs)
    ∙ ap (λ (v : Verdict). v then each_from test (place + length (take i xs)) (x ∷ drop (i + 1) xs)) so_far
    ∙ fails_first (place + length (take i xs)) (test x) reason (each_from test (place + length (take i xs) + 1) (drop (i + 1) xs)) fails
    ∙ ap (λ (n : ℕ). NotVerified reason (place + n)) count

-- all of them
pub each_all : {X : Type 0} (test : X → Option Reason) (place : ℕ) (xs : List X) (i : ℕ) → length xs ≤ i
    → each_from test place (take i xs) ≡ Verified → each_from test place xs ≡ Verified
each_all test place xs i le so_far = ap (each_from test place) (sym (take_all i xs le)) ∙ so_far

-- tests with the same outcome on each element
pub each_same : {X : Type 0} (test other : X → Option Reason) (place : ℕ) (xs : List X)
    → ((x : X) → Contains xs x → test x ≡ other x) → each_from test place xs ≡ each_from other place xs
each_same test other place [] same = refl
each_same test other place (x ∷ xs) same =
    ap (λ (fault : Option Reason). at_place place fault then each_from test (place + 1) xs) (same x (Contains-head x xs))
    ∙ ap (λ (v : Verdict). at_place place (other x) then v)
    (each_same test other (place + 1) xs (λ y there. same y (Contains-tail x xs y there)))

-- the elements before a place, each of which passes
pub each_below : {X : Type 0} (test : X → Option Reason) (place : ℕ) (xs : List X) (k : ℕ) → k ≤ length xs
    → ((i : ℕ) (x : X) → i < k → slice_get xs i ≡ Some x → test x ≡ None) → each_from test place (take k xs) ≡ Verified
each_below test place xs zero le pass = refl
each_below test place xs (suc k) le pass =
    let (x, is) = element_at xs k (omega arith) in
    let e : k + 1 ≡ suc k = omega arith in
    subst (λ (n : ℕ). each_from test place (take n xs) ≡ Verified) e
    (each_next test place xs k x (omega arith) (sym (get_or_from_slice_get xs k x x is))
    (each_below test place xs k (omega arith) (λ i y before here. pass i y (omega arith) here))
    (pass k x (omega arith) is))
  where
    element_at : {X : Type 0} (xs : List X) (k : ℕ) → k < length xs → (x : X) × (slice_get xs k ≡ Some x)
    element_at [] k lt = absurd (omega arith)
    element_at (x ∷ xs) k lt = (get_or (x ∷ xs) k x, slice_get-get_or (x ∷ xs) k x lt)
