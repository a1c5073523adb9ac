-- Membership in sets of literals, and the test for it.
use Rattle.std.proofs.Common.{◌≡◌, ℕ, Bool, true, false, not, if◌then◌else◌, Contains, refl, sym, ap, ◌∙◌, subst}
use Rattle.std.proofs.lemmas.Bool.{and_parts, and_from, eqb-true, eq-eqb, false_from_ne_true}
use Rattle.cnf_core.specs.Literals.{Literal, Literals}
use Rattle.cnf_core.proofs.Lists.{member_of_list_any, list_any_of_member}
use Rattle.lrat_lines.specs.Sets.{is_same, has}

same_sign : (p q : Bool) → (if p then q else not q) ≡ true → p ≡ q
same_sign true q same = sym same
same_sign false true same = same
same_sign false false same = refl

sign_itself : (p : Bool) → (if p then p else not p) ≡ true
sign_itself true = refl
sign_itself false = refl

-- the test tells whether the literals are equal
pub is_same-true : (k l : Literal) → is_same k l ≡ true → k ≡ l
is_same-true k l same =
    let parts = and_parts _ _ same in
    ap (λ (v : ℕ). record { var = v; positive = k.positive }) (eqb-true k.var l.var parts.0)
    ∙ ap (λ (p : Bool). record { var = l.var; positive = p }) (same_sign k.positive l.positive parts.1)

pub is_same_itself : (l : Literal) → is_same l l ≡ true
is_same_itself l = and_from _ _ (eq-eqb l.var l.var refl) (sign_itself l.positive)

pub is_same_of_equal : (k l : Literal) → k ≡ l → is_same k l ≡ true
is_same_of_equal k l same = subst (λ (m : Literal). is_same k m ≡ true) same (is_same_itself k)

-- and the test for membership tells whether the literal is a member
pub Contains_of_has : (c : Literals) (l : Literal) → has c l ≡ true → Contains c l
Contains_of_has c l some =
    let (k, there, same) = member_of_list_any (is_same l) c some in
    subst (λ (m : Literal). Contains c m) (sym (is_same-true l k same)) there

pub has_of_Contains : (c : Literals) (l : Literal) → Contains c l → has c l ≡ true
has_of_Contains c l there = list_any_of_member (is_same l) c l there (is_same_itself l)

pub has-false : (c : Literals) (l : Literal) → (Contains c l → ⊥) → has c l ≡ false
has-false c l none = false_from_ne_true (has c l) (λ some. none (Contains_of_has c l some))
