-- The literals of a clause that are not false, one after another.
use Rattle.std.proofs.Common.{◌≡◌, ℕ, ◌+◌, ◌<◌, Bool, true, false, not, ◌&&◌, if◌then◌else◌, List, [], ◌∷◌, ◌++◌, Option, Some, None}
use Rattle.std.proofs.Common.{length, take, get_or, inl, inr, refl, sym, ap, ◌∙◌, subst, Contains, append-nil}
use Rattle.std.specs.List.{list_all}
use Rattle.std.proofs.lemmas.Bool.{cases_Bool}
use Rattle.std.proofs.lemmas.List.Elements.{filter_more}
use Rattle.cnf_core.specs.Literals.{Literal, Literals, negated}
use Rattle.cnf_core.proofs.Lists.{Contains-head, kept_of_Contains-filter}
use Rattle.lrat_lines.specs.Sets.{is_same, has}
use Rattle.lrat_lines.specs.Propagation.{Refusal, NotUnit, open_literals, by_open}
use Rattle.lrat_checker.specs.declared.assignment.Open.{Open}
use Rattle.lrat_checker.specs.declared.assignment.Open.TheVariants.{Never, Single, Several}
use Rattle.lrat_checker.specs.Steps.Assigned.{open_of, opened}

and_true : (x : Bool) → (x && true) ≡ x
and_true true = refl
and_true false = refl

and_assoc : (x y z : Bool) → (x && (y && z)) ≡ ((x && y) && z)
and_assoc true y z = refl
and_assoc false y z = refl

all_push : (p : Literal → Bool) (ls : Literals) (l : Literal) → list_all p (ls ++ l ∷ []) ≡ (list_all p ls && p l)
all_push p [] l = and_true (p l)
all_push p (k ∷ ls) l = ap (λ (b : Bool). p k && b) (all_push p ls l) ∙ and_assoc (p k) (list_all p ls) (p l)

chosen : (x y : Bool) (k l : Literal) → y ≡ is_same k l
    → opened (if x then Single k else Several) l ≡ (if x && y then Single k else Several)
chosen true y k l is = ap (λ (b : Bool). if b then Single k else Several) (sym is)
chosen false y k l is = refl

pub open_of-push : (os : Literals) (l : Literal) → open_of (os ++ l ∷ []) ≡ opened (open_of os) l
open_of-push [] l = refl
open_of-push (k ∷ os) l =
    ap (λ (b : Bool). if b then Single k else Several) (all_push (is_same k) os l)
    ∙ sym (chosen (list_all (is_same k) os) (is_same k l) k l refl)

pub open_more_false : (trues lits : Literals) (i : ℕ) (d : Literal) → i < length lits → has trues (negated (get_or lits i d)) ≡ true
    → open_of (open_literals trues (take (i + 1) lits)) ≡ open_of (open_literals trues (take i lits))
open_more_false trues lits i d lt fails =
    let test = λ (l : Literal). not (has trues (negated l)) in
    ap open_of (filter_more test lits i d lt
    ∙ ap (λ (b : Bool). open_literals trues (take i lits) ++ (if b then get_or lits i d ∷ [] else [])) (ap not fails)
    ∙ append-nil (open_literals trues (take i lits)))

pub open_more : (trues lits : Literals) (i : ℕ) (d : Literal) → i < length lits → has trues (negated (get_or lits i d)) ≡ false
    → open_of (open_literals trues (take (i + 1) lits)) ≡ opened (open_of (open_literals trues (take i lits))) (get_or lits i d)
open_more trues lits i d lt holds =
    let test = λ (l : Literal). not (has trues (negated l)) in
    ap open_of (filter_more test lits i d lt
    ∙ ap (λ (b : Bool). open_literals trues (take i lits) ++ (if b then get_or lits i d ∷ [] else [])) (ap not holds))
    ∙ open_of-push (open_literals trues (take i lits)) (get_or lits i d)

-- what a hint does, by which literals of its set are not false
pub by_open-never : (h : ℕ) (trues : Literals) (rest : Literals → Option Refusal) (os : Literals) → open_of os ≡ Never
    → by_open h trues rest os ≡ None
by_open-never h trues rest [] is = refl
by_open-never h trues rest (l ∷ ls) is = elim (cases_Bool (list_all (is_same l) ls)) [
  | inl same ↦ (let wrong : Single l ≡ Never = rw same at is in absurd (cc wrong))
  | inr other ↦ (let wrong : Several ≡ Never = rw other at is in absurd (cc wrong))
]

pub by_open-single : (h : ℕ) (trues : Literals) (rest : Literals → Option Refusal) (os : Literals) (k : Literal) → open_of os ≡ Single k
    → by_open h trues rest os ≡ rest (trues ++ k ∷ [])
by_open-single h trues rest [] k is = absurd (cc)
by_open-single h trues rest (l ∷ ls) k is = elim (cases_Bool (list_all (is_same l) ls)) [
  | inl same ↦ (let one : Single l ≡ Single k = rw same at is in
      let which : l ≡ k = cc in
      rw same (ap (λ (m : Literal). rest (trues ++ m ∷ [])) which))
  | inr other ↦ (let wrong : Several ≡ Single k = rw other at is in absurd (cc wrong))
]

pub by_open-several : (h : ℕ) (trues : Literals) (rest : Literals → Option Refusal) (os : Literals) → open_of os ≡ Several
    → by_open h trues rest os ≡ Some (NotUnit h)
by_open-several h trues rest [] is = absurd (cc)
by_open-several h trues rest (l ∷ ls) is = elim (cases_Bool (list_all (is_same l) ls)) [
  | inl same ↦ (let wrong : Single l ≡ Several = rw same at is in absurd (cc wrong))
  | inr other ↦ rw other refl
]

-- the single literal that is not false is one of the clause
single_member : (os : Literals) (k : Literal) → open_of os ≡ Single k → Contains os k
single_member [] k is = absurd (cc)
single_member (l ∷ ls) k is = elim (cases_Bool (list_all (is_same l) ls)) [
  | inl same ↦ (let one : Single l ≡ Single k = rw same at is in
      let which : l ≡ k = cc in
      subst (λ (m : Literal). Contains (l ∷ ls) m) which (Contains-head l ls))
  | inr other ↦ (let wrong : Several ≡ Single k = rw other at is in absurd (cc wrong))
]

pub single_is_member : (trues c : Literals) (k : Literal) → open_of (open_literals trues c) ≡ Single k → Contains c k
single_is_member trues c k is =
    (kept_of_Contains-filter (λ (l : Literal). not (has trues (negated l))) c k (single_member (open_literals trues c) k is)).member
