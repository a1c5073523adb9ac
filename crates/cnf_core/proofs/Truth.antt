-- What an assignment makes true, by its values.
use Rattle.std.proofs.Common.{◌≡◌, ℕ, zero, suc, ◌+◌, ◌-◌, ◌<◌, ◌≤◌, ◌≢◌, Bool, true, false, not, if◌then◌else◌, IsTrue, [], ◌∷◌, ◌++◌, length, Contains, refl, sym, ap, ◌∙◌, subst, ⊎_elim, add-one, eq-or-lt_of_le, get_or-set_same, get_or-set_other, arith}
use Rattle.std.proofs.lemmas.List.Elements.{All-nil, All-push, All-weaker, Contains-append_left, Contains-push}
use Rattle.cnf_core.specs.Literals.{Literal, Assignment, negated, value_of, with_value, is_true, IsWithin, AreWithin}
use Rattle.cnf_core.specs.Formulas.{true_literal, true_literals}

-- a literal with this variable and this sign
abbrev pub literal_of : ℕ → Bool → Literal
literal_of v positive = record { var = v; positive = positive }

-- the negation is true where the literal is false
pub is_true-negated : (a : Assignment) (l : Literal) → is_true a (negated l) ≡ not (is_true a l)
is_true-negated a l = by_sign l.positive (value_of a l.var)
  where
    by_sign : (positive value : Bool)
        → (if not positive then value else not value) ≡ not (if positive then value else not value)
    by_sign true value = refl
    by_sign false true = refl
    by_sign false false = refl

-- a literal that is true is the one of its variable's value
pub true_literal_of_is_true : (a : Assignment) (l : Literal) → IsTrue (is_true a l) → true_literal a l.var ≡ l
true_literal_of_is_true a l holds = ap (literal_of l.var) (by_sign l.positive (value_of a l.var) holds)
  where
    by_sign : (positive value : Bool) → (if positive then value else not value) ≡ true → value ≡ positive
    by_sign true value holds = holds
    by_sign false true holds = sym holds
    by_sign false false holds = refl

-- the assignment with the other value of v
abbrev pub flipped : Assignment → ℕ → Assignment
flipped a v = with_value a v (not (value_of a v))

pub value_of-with_value : (a : Assignment) (v : ℕ) (value : Bool) → 0 < v → v ≤ length a
    → value_of (with_value a v value) v ≡ value
value_of-with_value a v value low high = get_or-set_same a (v - 1) value false (omega arith)

pub value_of-with_value_other : (a : Assignment) (v w : ℕ) (value : Bool) → 0 < v → 0 < w → w ≢ v
    → value_of (with_value a v value) w ≡ value_of a w
value_of-with_value_other a v w value low_v low_w other =
    let apart : w - 1 ≢ v - 1 = omega arith in
    get_or-set_other a (v - 1) (w - 1) value false apart

-- a literal's truth goes by the value of its variable alone
pub is_true_same : (a b : Assignment) (l : Literal) → value_of b l.var ≡ value_of a l.var
    → is_true b l ≡ is_true a l
is_true_same a b l same = ap (λ value. if l.positive then value else not value) same

pub is_true_flipped : (a b : Assignment) (l : Literal) → value_of b l.var ≡ not (value_of a l.var)
    → is_true b l ≡ not (is_true a l)
is_true_flipped a b l other =
    ap (λ value. if l.positive then value else not value) other ∙ by_sign l.positive (value_of a l.var)
  where
    by_sign : (positive value : Bool)
        → (if positive then not value else not (not value)) ≡ not (if positive then value else not value)
    by_sign true value = refl
    by_sign false value = refl

-- a literal that is false is the negation of its variable's own
pub negated_of_is_false : (a : Assignment) (l : Literal) → is_true a l ≡ false
    → negated (true_literal a l.var) ≡ l
negated_of_is_false a l fails = ap (literal_of l.var) (by_sign l.positive (value_of a l.var) fails)
  where
    by_sign : (positive value : Bool) → (if positive then value else not value) ≡ false → not value ≡ positive
    by_sign true value fails = ap not fails
    by_sign false true fails = refl
    by_sign false false fails = fails

-- the true literals, by the steps of a loop over the variables
pub true_literals-zero : (a : Assignment) → true_literals a 0 ≡ []
unfolding true_literals
true_literals-zero a = refl

pub true_literals-more : (a : Assignment) (n : ℕ)
    → true_literals a (n + 1) ≡ true_literals a n ++ true_literal a (n + 1) ∷ []
unfolding true_literals
true_literals-more a n = simp add-one

pub ruleset true_literals_steps = (true_literals-zero, true_literals-more)

pub true_literals_within : (a : Assignment) (n : ℕ) → AreWithin n (true_literals a n)
unfolding true_literals
true_literals_within a zero = All-nil (IsWithin 0)
true_literals_within a (suc n) =
    All-push (IsWithin (suc n)) (true_literals a n) (true_literal a (suc n))
    (All-weaker (IsWithin n) (IsWithin (suc n)) (λ l within. record { low = within.low; high = omega arith })
    (true_literals a n) (true_literals_within a n))
    (record { low = omega arith; high = omega arith })

-- the literal of each variable stands among the true ones
pub Contains-true_literals : (a : Assignment) (n v : ℕ) → 0 < v → v ≤ n
    → Contains (true_literals a n) (true_literal a v)
unfolding true_literals
Contains-true_literals a zero v low high = absurd (omega arith)
Contains-true_literals a (suc n) v low high =
    ⊎_elim
    (λ (is : v ≡ suc n).
    subst (λ w. Contains (true_literals a n ++ true_literal a (suc n) ∷ []) (true_literal a w)) (sym is)
    (Contains-push (true_literals a n) (true_literal a (suc n))))
    (λ (below : v < suc n).
    Contains-append_left (true_literals a n) (true_literal a (suc n) ∷ []) (true_literal a v)
    (Contains-true_literals a n v low (omega arith)))
    (eq-or-lt_of_le high)
