-- Sets of one literal and of none.
use Rattle.std.proofs.Common.{◌≡◌, ◌↔◌, ◌⊎◌, ℕ, ◌<◌, ◌≤◌, Bool, true, false, ◌||◌, if◌then◌else◌, IsTrue, List, [], ◌∷◌, ◌++◌, Option, Some}
use Rattle.std.proofs.Common.{None, Contains, length, get_or, set, inl, inr, ⊎_elim, refl, sym, ap, ◌∙◌, subst, get_or-set_same}
use Rattle.std.proofs.Common.{get_or-set_other}
use Rattle.std.specs.List.{list_all}
use Rattle.std.proofs.lemmas.Bool.{cases_eq, cases_Bool, or_right, false_from_ne_true, or_cases, or_left}
use Rattle.std.proofs.lemmas.List.Elements.{Contains-push, Contains-push_cases, Contains-append_left}
use Rattle.cnf_core.specs.Literals.{Literal, Literals, code_of}
use Rattle.cnf_core.proofs.Lists.{Contains-head, Contains-tail, Contains-cons_cases, Contains-nil, passes_of_list_all, list_all_of_members}
use Rattle.lrat_lines.specs.Sets.{is_same, IsSameSet, HasSet}
use Rattle.lrat_lines.proofs.LiteralSets.{is_same-true, is_same_of_equal}
use Rattle.lrat_checker.specs.Steps.Units.{unit_of, is_just, is_unit, is_empty}
use Rattle.lrat_checker.proofs.TableLemmas.{code_of_injective, or_false}

-- a mark at the code of a literal
pub marked_at : (units : List Bool) (k l : Literal) → code_of k < length units
    → get_or (set units (code_of k) true) (code_of l) false ≡ (get_or units (code_of l) false || is_same k l)
marked_at units k l inside = elim (cases_eq (code_of l) (code_of k)) [
  | inl same ↦
      (let is : k ≡ l = code_of_injective k l (sym same) in
      ap (λ (i : ℕ). get_or (set units (code_of k) true) i false) same
      ∙ get_or-set_same units (code_of k) true false inside
      ∙ sym (or_right (get_or units (code_of l) false) (is_same k l) (is_same_of_equal k l is)))
  | inr other ↦
      (let differs : is_same k l ≡ false = false_from_ne_true (is_same k l) (λ same. other (ap code_of (sym (is_same-true k l same)))) in
      get_or-set_other units (code_of k) (code_of l) true false other
      ∙ sym (or_false (get_or units (code_of l) false))
      ∙ ap (λ (b : Bool). get_or units (code_of l) false || b) (sym differs))
]

-- a set of one literal
only : (l x : Literal) → Contains (l ∷ []) x → l ≡ x
only l x there = ⊎_elim (λ (is : l ≡ x). is) (λ (none : Contains [] x). absurd (Contains-nil x none)) (Contains-cons_cases l [] x there)

pub unit_of_same : (c : Literals) (l : Literal) → IsSameSet (l ∷ []) c → is_unit c l ≡ true
unit_of_same [] l same = absurd (Contains-nil l (same.forth l (Contains-head l [])))
unit_of_same (k ∷ ks) l same =
    let first : k ≡ l = sym (only l k (same.back k (Contains-head k ks))) in
    let others : list_all (is_same k) ks ≡ true =
    list_all_of_members (is_same k) ks (λ x there. is_same_of_equal k x (first ∙ only l x (same.back x (Contains-tail k ks x there)))) in
    rw others (is_same_of_equal k l first)

pub same_of_unit : (c : Literals) (l : Literal) → is_unit c l ≡ true → IsSameSet (l ∷ []) c
same_of_unit [] l unit = absurd (cc)
same_of_unit (k ∷ ks) l unit = elim (cases_Bool (list_all (is_same k) ks)) [
  | inl same ↦
      (let first : k ≡ l = is_same-true k l (rw same at unit) in
      record {
        forth = λ x there. subst (λ (y : Literal). Contains (k ∷ ks) y) (first ∙ only l x there) (Contains-head k ks);
        back = λ x there.
            subst (λ (y : Literal). Contains (l ∷ []) y) (sym first ∙ elim (Contains-cons_cases k ks x there) [
              | inl is ↦ is
              | inr later ↦ is_same-true k x (passes_of_list_all (is_same k) ks x same later)
            ]) (Contains-head l []);
      })
  | inr other ↦ (let wrong : false ≡ true = rw other at unit in absurd (cc wrong))
]

pub empty_of_same : (c : Literals) → IsSameSet [] c → is_empty c ≡ true
empty_of_same [] same = refl
empty_of_same (k ∷ ks) same = absurd (Contains-nil k (same.back k (Contains-head k ks)))

pub same_of_empty : (c : Literals) → is_empty c ≡ true → IsSameSet [] c
same_of_empty [] empty = record { forth = λ x there. there; back = λ x there. there }
same_of_empty (k ∷ ks) empty = absurd (cc)

-- one set more
pub has_set_push : (sets : List Literals) (c d : Literals) → HasSet sets d ⊎ IsSameSet d c → HasSet (sets ++ c ∷ []) d
has_set_push sets c d (inl before) =
    record { set = before.set; member = Contains-append_left sets (c ∷ []) before.set before.member; same = before.same }
has_set_push sets c d (inr same) = record { set = c; member = Contains-push sets c; same = same }

pub has_set_cases : (sets : List Literals) (c d : Literals) → HasSet (sets ++ c ∷ []) d → HasSet sets d ⊎ IsSameSet d c
has_set_cases sets c d has = ⊎_elim
    (λ (before : Contains sets has.set). inl (record { set = has.set; member = before; same = has.same }))
    (λ (is : c ≡ has.set). inr (subst (λ (e : Literals). IsSameSet d e) (sym is) has.same))
    (Contains-push_cases sets c has.set has.member)

-- what is marked is what was reached, and stays so with one set more
pub marks_push : (sets : List Literals) (c d : Literals) (old new hit : Bool) → new ≡ (old || hit)
    → (hit ≡ true → IsSameSet d c) → (IsSameSet d c → hit ≡ true)
    → IsTrue old ↔ HasSet sets d → IsTrue new ↔ HasSet (sets ++ c ∷ []) d
marks_push sets c d old new hit is forth back before = (
  λ marked. has_set_push sets c d (elim (or_cases old hit (sym is ∙ marked)) [
    | inl earlier ↦ inl (before.0 earlier)
    | inr now ↦ inr (forth now)
  ]),
  λ has. is ∙ elim (has_set_cases sets c d has) [
    | inl earlier ↦ or_left old hit (before.1 earlier)
    | inr same ↦ or_right old hit (back same)
  ],
)
