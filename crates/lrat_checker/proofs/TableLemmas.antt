-- The table of false literals, by codes.
use Rattle.std.proofs.Common.{◌≡◌, ◌≢◌, ℕ, ◌+◌, ◌*◌, ◌<◌, ◌≤◌, Bool, true, false, not, ◌||◌, if◌then◌else◌, List, [], ◌∷◌, ◌++◌, All}
use Rattle.std.proofs.Common.{length, get_or, set, replicate, inl, inr, refl, sym, ap, ◌∙◌, subst, length-set, get_or-set_same}
use Rattle.std.proofs.Common.{get_or-set_other, arith}
use Rattle.std.specs.List.{list_any}
use Rattle.std.proofs.lemmas.Bool.{cases_eq, cases_lt, both_ways, or_cases, or_right, false_from_ne_true, eqb-true}
use Rattle.std.proofs.lemmas.List.{get_or-replicate, get_or_past, length-replicate, get_or_push, length_push}
use Rattle.std.proofs.lemmas.List.Elements.{All-nil, All-push, All-weaker}
use Rattle.cnf_core.specs.Literals.{Literal, Literals, negated, code_of}
use Rattle.lrat_lines.specs.Sets.{is_same, has}
use Rattle.lrat_lines.proofs.LiteralSets.{is_same-true, is_same_of_equal}
use Rattle.lrat_checker.specs.Steps.Assigned.{HasPlace, IsTable}

by_parts : (p q : Bool) (v w : ℕ) → 2 * v + (if p then 0 else 1) ≡ 2 * w + (if q then 0 else 1)
    → record { var = v; positive = p } ≡ (let l : Literal = record { var = w; positive = q } in l)
by_parts true true v w same = ap (λ (u : ℕ). record { var = u; positive = true }) (omega arith)
by_parts true false v w same = absurd (omega arith)
by_parts false true v w same = absurd (omega arith)
by_parts false false v w same = ap (λ (u : ℕ). record { var = u; positive = false }) (omega arith)

-- each literal has its own code
pub code_of_injective : (k l : Literal) → code_of k ≡ code_of l → k ≡ l
code_of_injective k l same = by_parts k.positive l.positive k.var l.var same

not_not : (p : Bool) → not (not p) ≡ p
not_not true = refl
not_not false = refl

pub negated-negated : (l : Literal) → negated (negated l) ≡ l
negated-negated l = ap (λ (p : Bool). record { var = l.var; positive = p }) (not_not l.positive)

-- the first is the negation of the second where the second is that of the first
pub negated_back : (k l : Literal) → negated k ≡ l → k ≡ negated l
negated_back k l is = sym (negated-negated k) ∙ ap negated is

pub or_false : (x : Bool) → (x || false) ≡ x
or_false true = refl
or_false false = refl

or_assoc : (x y z : Bool) → (x || (y || z)) ≡ ((x || y) || z)
or_assoc true y z = refl
or_assoc false y z = refl

any_push : {X : Type 0} (p : X → Bool) (xs : List X) (x : X) → list_any p (xs ++ x ∷ []) ≡ (list_any p xs || p x)
any_push p [] x = or_false (p x)
any_push p (y ∷ ys) x = ap (λ (b : Bool). p y || b) (any_push p ys x) ∙ or_assoc (p y) (list_any p ys) (p x)

pub has-push : (trues : Literals) (l m : Literal) → has (trues ++ l ∷ []) m ≡ (has trues m || is_same m l)
has-push trues l m = any_push (is_same m) trues l

places_false : (n i : ℕ) → get_or (replicate n false) i false ≡ false
places_false n i = elim (cases_lt i n) [
  | inl lt ↦ get_or-replicate n i false false lt
  | inr past ↦ get_or_past (replicate n false) i false (omega (arith, length-replicate n false))
]

pub table_none : (n : ℕ) → IsTable (replicate n false) []
table_none n = record { tells = λ l. places_false n (code_of l); placed = All-nil (HasPlace (length (replicate n false))) }

pub table_cleared : (falses : List Bool) → ((l : Literal) → get_or falses (code_of l) false ≡ false) → IsTable falses []
table_cleared falses none = record { tells = none; placed = All-nil (HasPlace (length falses)) }

pub code_of-bound : (l : Literal) → code_of l ≤ 2 * l.var + 1
code_of-bound l = by_sign l.positive
  where
    by_sign : (p : Bool) → 2 * l.var + (if p then 0 else 1) ≤ 2 * l.var + 1
    by_sign true = omega arith
    by_sign false = omega arith

pub code_in_place : (codes : ℕ) (l : Literal) → HasPlace codes l → code_of l < codes
code_in_place codes l place = omega (arith, code_of-bound l)

-- a mark more, and a true literal more
tells_more : (falses : List Bool) (trues : Literals) (lit : Literal) → IsTable falses trues → HasPlace (length falses) lit
    → (l : Literal) → get_or (set falses (code_of (negated lit)) true) (code_of l) false ≡ has (trues ++ lit ∷ []) (negated l)
tells_more falses trues lit table place l = elim (cases_eq (code_of l) (code_of (negated lit))) [
  | inl same ↦
      (let is : negated l ≡ lit = ap negated (code_of_injective l (negated lit) same) ∙ negated-negated lit in
      let inside : code_of (negated lit) < length falses = code_in_place (length falses) (negated lit) place in
      ap (λ (i : ℕ). get_or (set falses (code_of (negated lit)) true) i false) same
      ∙ get_or-set_same falses (code_of (negated lit)) true false inside
      ∙ sym (has-push trues lit (negated l)
      ∙ or_right (has trues (negated l)) (is_same (negated l) lit) (is_same_of_equal (negated l) lit is)))
  | inr other ↦
      (let differs : is_same (negated l) lit ≡ false = false_from_ne_true (is_same (negated l) lit) (λ same.
      other (ap code_of (negated_back l lit (is_same-true (negated l) lit same)))) in
      get_or-set_other falses (code_of (negated lit)) (code_of l) true false other
      ∙ table.tells l
      ∙ sym (or_false (has trues (negated l)))
      ∙ ap (λ (b : Bool). has trues (negated l) || b) (sym differs)
      ∙ sym (has-push trues lit (negated l)))
]

pub table_more : (falses : List Bool) (trues : Literals) (lit : Literal) → IsTable falses trues → HasPlace (length falses) lit
    → IsTable (set falses (code_of (negated lit)) true) (trues ++ lit ∷ [])
table_more falses trues lit table place = record {
  tells = tells_more falses trues lit table place;
  placed =
      let same = length-set falses (code_of (negated lit)) true in
      All-weaker (HasPlace (length falses)) (HasPlace (length (set falses (code_of (negated lit)) true)))
      (λ l in_place. omega (arith, same)) (trues ++ lit ∷ [])
      (All-push (HasPlace (length falses)) trues lit table.placed place);
}

-- the marks that are left belong to the true literals that are left
pub record IsCovered (falses : List Bool) (trues : Literals) : Type 0 where
  pub covers : (l : Literal) → get_or falses (code_of l) false ≡ true → has trues (negated l) ≡ true
  pub placed : All (HasPlace (length falses)) trues

pub covered_table : (falses : List Bool) (trues : Literals) → IsTable falses trues → IsCovered falses trues
covered_table falses trues table = record { covers = λ l marked. sym (table.tells l) ∙ marked; placed = table.placed }

-- a true literal less, and its mark less
pub covered_less : (falses : List Bool) (trues : Literals) (lit : Literal) → IsCovered falses (trues ++ lit ∷ [])
    → (l : Literal) → get_or (set falses (code_of (negated lit)) false) (code_of l) false ≡ true → has trues (negated l) ≡ true
covered_less falses trues lit covered l marked = elim (cases_eq (code_of l) (code_of (negated lit))) [
  | inl same ↦
      (let place : HasPlace (length falses) lit = All-last trues lit covered.placed in
      let inside : code_of (negated lit) < length falses = code_in_place (length falses) (negated lit) place in
      absurd (both_ways (get_or (set falses (code_of (negated lit)) false) (code_of l) false)
      (ap (λ (i : ℕ). get_or (set falses (code_of (negated lit)) false) i false) same
      ∙ get_or-set_same falses (code_of (negated lit)) false false inside) marked))
  | inr other ↦
      (let before = covered.covers l (sym (get_or-set_other falses (code_of (negated lit)) (code_of l) false false other) ∙ marked) in
      elim (or_cases (has trues (negated l)) (is_same (negated l) lit) (sym (has-push trues lit (negated l)) ∙ before)) [
        | inl there ↦ there
        | inr same ↦ absurd (other (ap code_of (negated_back l lit (is_same-true (negated l) lit same))))
      ])
]
  where
    All-last : (trues : Literals) (lit : Literal) → All (HasPlace (length falses)) (trues ++ lit ∷ []) → HasPlace (length falses) lit
    All-last trues lit all =
        subst (HasPlace (length falses)) (get_or_push trues lit lit (length trues) refl)
        (all (length trues) lit (omega (arith, length_push trues lit)))
