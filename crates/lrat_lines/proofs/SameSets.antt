-- Reverse unit propagation looks at clauses as sets.
use Rattle.std.proofs.Common.{◌≡◌, ℕ, Bool, true, false, not, if◌then◌else◌, List, [], ◌∷◌, ◌++◌, Option, Some, None, Contains, map}
use Rattle.std.proofs.Common.{refl, sym, ap, ◌∙◌, subst, inl, inr, ⊎_elim}
use Rattle.std.specs.List.{list_all}
use Rattle.std.proofs.lemmas.Bool.{cases_Bool, false_from_ne_true, both_ways}
use Rattle.std.proofs.lemmas.List.Elements.{Contains-push, Contains-push_cases, Contains-append_left}
use Rattle.cnf_core.specs.Literals.{Literal, Literals, negated}
use Rattle.cnf_core.proofs.Lists.{Contains-head, Contains-tail, Contains-cons_cases, Contains-nil}
use Rattle.cnf_core.proofs.Lists.{Contains-filter, kept_of_Contains-filter, passes_of_list_all, list_all_of_members}
use Rattle.cnf_core.proofs.Lists.{member_of_list_any, list_any_of_member}
use Rattle.lrat_lines.specs.Sets.{is_same, has, has_complements, IsSameSet}
use Rattle.lrat_lines.specs.Propagation.{Known, IsSameKnown, AreSameKnown, Refusal}
use Rattle.lrat_lines.specs.Propagation.{open_literals, by_open, by_set, by_hints, rup}
use Rattle.lrat_lines.specs.Laws.{PropagatesBySets}
use Rattle.lrat_lines.proofs.MappedLists.{source_of_map, member_of_map}
use Rattle.lrat_lines.proofs.LiteralSets.{is_same-true, is_same_of_equal, Contains_of_has, has_of_Contains}

pub same_set_itself : (c : Literals) → IsSameSet c c
same_set_itself c = record { forth = λ l there. there; back = λ l there. there }

turned : {c d : Literals} → IsSameSet c d → IsSameSet d c
turned {c} {d} same = record { forth = same.back; back = same.forth }

-- two tests that are passed at the same time
pub same_test : (p q : Bool) → (p ≡ true → q ≡ true) → (q ≡ true → p ≡ true) → p ≡ q
same_test true q forth back = sym (forth refl)
same_test false true forth back = back refl
same_test false false forth back = refl

pub has-same : (c d : Literals) (l : Literal) → IsSameSet c d → has c l ≡ has d l
has-same c d l same =
    same_test (has c l) (has d l)
    (λ some. has_of_Contains d l (same.forth l (Contains_of_has c l some)))
    (λ some. has_of_Contains c l (same.back l (Contains_of_has d l some)))

complements_in : (c d : Literals) → IsSameSet c d → has_complements c ≡ true → has_complements d ≡ true
complements_in c d same both =
    let (l, there, other) = member_of_list_any (λ (k : Literal). has c (negated k)) c both in
    list_any_of_member (λ (k : Literal). has d (negated k)) d l (same.forth l there) (sym (has-same c d (negated l) same) ∙ other)

has_complements-same : (c d : Literals) → IsSameSet c d → has_complements c ≡ has_complements d
has_complements-same c d same =
    same_test (has_complements c) (has_complements d) (complements_in c d same) (complements_in d c (turned same))

map_within : (f : Literal → Literal) (c d : Literals) → ((l : Literal) → Contains c l → Contains d l) → (k : Literal)
    → Contains (map f c) k → Contains (map f d) k
map_within f c d within k there =
    let x = source_of_map f c k there in
    subst (λ (m : Literal). Contains (map f d) m) x.is (member_of_map f d x.source (within x.source x.member))

pub map-same : (f : Literal → Literal) (c d : Literals) → IsSameSet c d → IsSameSet (map f c) (map f d)
map-same f c d same = record { forth = map_within f c d same.forth; back = map_within f d c same.back }

push_within : (ts us : Literals) (l : Literal) → ((x : Literal) → Contains ts x → Contains us x) → (x : Literal)
    → Contains (ts ++ l ∷ []) x → Contains (us ++ l ∷ []) x
push_within ts us l within x there = ⊎_elim
    (λ (before : Contains ts x). Contains-append_left us (l ∷ []) x (within x before))
    (λ (is : l ≡ x). subst (λ (y : Literal). Contains (us ++ l ∷ []) y) is (Contains-push us l))
    (Contains-push_cases ts l x there)

pub push-same : (ts us : Literals) (l : Literal) → IsSameSet ts us → IsSameSet (ts ++ l ∷ []) (us ++ l ∷ [])
push-same ts us l same = record { forth = push_within ts us l same.forth; back = push_within us ts l same.back }

open_within : (ts us c d : Literals) → IsSameSet ts us → IsSameSet c d → (x : Literal) → Contains (open_literals ts c) x
    → Contains (open_literals us d) x
open_within ts us c d trues same x there =
    let kept = kept_of_Contains-filter (λ (l : Literal). not (has ts (negated l))) c x there in
    Contains-filter (λ (l : Literal). not (has us (negated l))) d x (same.forth x kept.member)
    (ap not (sym (has-same ts us (negated x) trues)) ∙ kept.passes)

open-same : (ts us c d : Literals) → IsSameSet ts us → IsSameSet c d → IsSameSet (open_literals ts c) (open_literals us d)
open-same ts us c d trues same = record {
  forth = open_within ts us c d trues same;
  back = open_within us ts d c (turned trues) (turned same);
}

-- the members of a set are all one literal
abbrev AreOne : Literals → Type 0
AreOne os = (x y : Literal) → Contains os x → Contains os y → x ≡ y

pub first_itself : (l : Literal) (ls : Literals) (x : Literal) → list_all (is_same l) ls ≡ true → Contains (l ∷ ls) x → l ≡ x
first_itself l ls x all there = ⊎_elim
    (λ (is : l ≡ x). is)
    (λ (later : Contains ls x). is_same-true l x (passes_of_list_all (is_same l) ls x all later))
    (Contains-cons_cases l ls x there)

one_by_test : (l : Literal) (ls : Literals) → list_all (is_same l) ls ≡ true → AreOne (l ∷ ls)
one_by_test l ls all x y first second = sym (first_itself l ls x all first) ∙ first_itself l ls y all second

test_by_one : (l : Literal) (ls : Literals) → AreOne (l ∷ ls) → list_all (is_same l) ls ≡ true
test_by_one l ls one =
    list_all_of_members (is_same l) ls (λ x later.
    is_same_of_equal l x (one l x (Contains-head l ls) (Contains-tail l ls x later)))

one_test : (l : Literal) (ls : Literals) (k : Literal) (ks : Literals) → IsSameSet (l ∷ ls) (k ∷ ks)
    → list_all (is_same l) ls ≡ true → list_all (is_same k) ks ≡ true
one_test l ls k ks same all =
    test_by_one k ks (λ x y first second. one_by_test l ls all x y (same.back x first) (same.back y second))

-- what follows a hint has the same outcome from the same true literals
abbrev GoesOnAlike : (Literals → Option Refusal) → (Literals → Option Refusal) → Type 0
GoesOnAlike r s = (ts us : Literals) → IsSameSet ts us → r ts ≡ s us

by_open-same : (h : ℕ) (ts us : Literals) (r s : Literals → Option Refusal) (os ps : Literals) → GoesOnAlike r s
    → IsSameSet ts us → IsSameSet os ps → by_open h ts r os ≡ by_open h us s ps
by_open-same h ts us r s [] [] alike trues same = refl
by_open-same h ts us r s [] (k ∷ ks) alike trues same = absurd (Contains-nil k (same.back k (Contains-head k ks)))
by_open-same h ts us r s (l ∷ ls) [] alike trues same = absurd (Contains-nil l (same.forth l (Contains-head l ls)))
by_open-same h ts us r s (l ∷ ls) (k ∷ ks) alike trues same =
    elim (cases_Bool (list_all (is_same l) ls)) [
      | inl all ↦
          (let other : list_all (is_same k) ks ≡ true = one_test l ls k ks same all in
          let is : l ≡ k = first_itself l ls k all (same.back k (Contains-head k ks)) in
          rw (all, other) (alike (ts ++ l ∷ []) (us ++ k ∷ [])
          (subst (λ (m : Literal). IsSameSet (ts ++ l ∷ []) (us ++ m ∷ [])) is (push-same ts us l trues))))
      | inr several ↦
          (let other : list_all (is_same k) ks ≡ false =
          false_from_ne_true (list_all (is_same k) ks) (λ all.
          both_ways (list_all (is_same l) ls) several (one_test k ks l ls (turned same) all)) in
          rw (several, other) refl)
    ]

by_set-same : (h : ℕ) (ts us : Literals) (r s : Literals → Option Refusal) (o p : Option Literals) → GoesOnAlike r s
    → IsSameSet ts us → IsSameKnown o p → by_set h ts r o ≡ by_set h us s p
by_set-same h ts us r s None None alike trues same = refl
by_set-same h ts us r s None (Some d) alike trues same = absurd same
by_set-same h ts us r s (Some c) None alike trues same = absurd same
by_set-same h ts us r s (Some c) (Some d) alike trues same =
    by_open-same h ts us r s (open_literals ts c) (open_literals us d) alike trues (open-same ts us c d trues same)

by_hints-same : (known other : Known) → AreSameKnown known other → (hints : List ℕ)
    → GoesOnAlike (by_hints known hints) (by_hints other hints)
by_hints-same known other same [] ts us trues = refl
by_hints-same known other same (h ∷ hs) ts us trues =
    by_set-same h ts us (by_hints known hs) (by_hints other hs) (known h) (other h) (by_hints-same known other same hs) trues (same h)

pub propagates_by_sets : PropagatesBySets
propagates_by_sets known other hints c d all same =
    ap (λ (b : Bool). if b then None else by_hints known hints (map negated c)) (has_complements-same c d same)
    ∙ ap (λ (o : Option Refusal). if has_complements d then None else o)
    (by_hints-same known other all hints (map negated c) (map negated d) (map-same negated c d same))

-- what is known is the same as itself, and as what is equal to it
same_known : (o p : Option Literals) → o ≡ p → IsSameKnown o p
same_known None None is = tt
same_known None (Some d) is = absurd (cc)
same_known (Some c) None is = absurd (cc)
same_known (Some c) (Some d) is = (let one : c ≡ d = cc in subst (λ (e : Literals). IsSameSet c e) one (same_set_itself c))

pub rup-agree : (known other : Known) → ((id : ℕ) → known id ≡ other id) → (hints : List ℕ) (c : Literals)
    → rup known hints c ≡ rup other hints c
rup-agree known other same hints c =
    propagates_by_sets known other hints c c (λ id. same_known (known id) (other id) (same id)) (same_set_itself c)
