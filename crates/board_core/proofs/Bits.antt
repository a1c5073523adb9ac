-- The bits of words after each operation, and how often the variables of a mask stand in their list.
use Rattle.std.proofs.Common.{◌≡◌, ◌≢◌, ℕ, zero, suc, ◌+◌, ◌-◌, ◌*◌, ◌/◌, ◌%◌, ◌<◌, ◌≤◌, ◌⊎◌, min, max, refl, sym, ap, ◌∙◌, subst, inl, inr, ⊎_elim, ◌++◌, List, [], arith, add-zero, append_assoc}
use Rattle.std.specs.Prelude.{bit_and, bit_or}
use Rattle.std.specs.Int.{bit_at}
use Rattle.std.proofs.lemmas.Bool.{eq-eqb, ne_eqb}
use Rattle.std.proofs.lemmas.Nat.{div-add-mod'}
use Rattle.std.proofs.lemmas.Nat.Bits.{bit_at_and, bit_at_or, bit_at_xor, bit_at_not, bit_at_above, bit_at_cat_low, bit_at_cat_high, bit_at_mask_inside, bit_at_mask_below, bit_at_ones, bit_at_ones_above, bit_at-lt, bit_at-suc, bit_at_lowest, bit_at-zero}
use Rattle.std.proofs.lemmas.List.{append-nil}
use Rattle.std.proofs.lemmas.List.Sums.{sum_by-append}
use mir.Syntax.{w64}
use Rattle.board_core.specs.Words.{without, with_fixed, cleared, newly, met, var_if, vars_from, vars_of, times}

-- the upper half of a word
pub bit_at_upper : (w i : ℕ) → bit_at (w / 4294967296) i ≡ bit_at w (32 + i)
bit_at_upper w i =
    let parts : (w / 4294967296) * 4294967296 + w % 4294967296 ≡ w = div-add-mod' w 4294967296 in
    let low : w % 4294967296 < 4294967296 = omega arith in
    let e : 32 + i - 32 ≡ i = omega arith in
    sym (ap (λ (n : ℕ). bit_at n (32 + i)) (sym parts)
    ∙ bit_at_cat_high (w / 4294967296) 32 (w % 4294967296) (32 + i) low (omega arith)
    ∙ ap (λ (k : ℕ). bit_at (w / 4294967296) k) e)

pub without_alive : (w mask i : ℕ) → mask < 4294967296 → i < 32
    → bit_at (without w mask) i ≡ min (bit_at w i) (1 - bit_at mask i)
without_alive w mask i small within =
    let rest : bit_at (18446744073709551615 - mask) i ≡ 1 - bit_at mask i = bit_at_not w64 mask i (omega arith) (omega arith) in
    omega (arith, bit_at_and w (18446744073709551615 - mask) i, rest)

pub without_fixed : (w mask i : ℕ) → mask < 4294967296 → i < 32
    → bit_at (without w mask) (32 + i) ≡ bit_at w (32 + i)
without_fixed w mask i small within =
    let rest : bit_at (18446744073709551615 - mask) (32 + i) ≡ 1 - bit_at mask (32 + i) = bit_at_not w64 mask (32 + i) (omega arith) (omega arith) in
    omega (arith, bit_at_and w (18446744073709551615 - mask) (32 + i), rest, bit_at_above mask 32 (32 + i) small (omega arith), bit_at-lt w (32 + i))

shifted_low : (mask i : ℕ) → i < 32 → bit_at (mask * 4294967296) i ≡ 0
shifted_low mask i within =
    ap (λ (n : ℕ). bit_at n i) (sym (add-zero (mask * 4294967296)))
    ∙ bit_at_cat_low mask 32 0 i within ∙ bit_at-zero i

shifted_high : (mask i : ℕ) → bit_at (mask * 4294967296) (32 + i) ≡ bit_at mask i
shifted_high mask i =
    let e : 32 + i - 32 ≡ i = omega arith in
    ap (λ (n : ℕ). bit_at n (32 + i)) (sym (add-zero (mask * 4294967296)))
    ∙ bit_at_cat_high mask 32 0 (32 + i) (omega arith) (omega arith) ∙ ap (λ (k : ℕ). bit_at mask k) e

pub with_fixed_alive : (w mask i : ℕ) → i < 32 → bit_at (with_fixed w mask) i ≡ bit_at w i
with_fixed_alive w mask i within = omega (arith, bit_at_or w (mask * 4294967296) i, shifted_low mask i within)

pub with_fixed_fixed : (w mask i : ℕ) → bit_at (with_fixed w mask) (32 + i) ≡ max (bit_at w (32 + i)) (bit_at mask i)
with_fixed_fixed w mask i = omega (arith, bit_at_or w (mask * 4294967296) (32 + i), shifted_high mask i)

pub cleared_bit : (w mask i : ℕ) → bit_at (cleared w mask) i ≡ min (bit_at w i) (bit_at mask i)
cleared_bit w mask i = bit_at_and w mask i

pub newly_bit : (w mask i : ℕ) → bit_at (newly w mask) i + min (bit_at mask i) (bit_at w (32 + i)) ≡ bit_at mask i
newly_bit w mask i =
    omega (arith, bit_at_xor mask (bit_and mask (w / 4294967296)) i, bit_at_and mask (w / 4294967296) i, bit_at_upper w i, bit_at-lt mask i, bit_at-lt w (32 + i))

pub met_alive : (a b i : ℕ) → i < 32 → bit_at (met a b) i ≡ min (bit_at a i) (bit_at b i)
met_alive a b i within =
    let low : bit_at 4294967295 i ≡ 1 = bit_at_ones 32 i within in
    let high : bit_at 18446744069414584320 i ≡ 0 = bit_at_mask_below 32 64 i within in
    omega (
      arith,
      bit_at_or (bit_and (bit_and a b) 4294967295) (bit_and (bit_or a b) 18446744069414584320) i,
      bit_at_and (bit_and a b) 4294967295 i,
      bit_at_and (bit_or a b) 18446744069414584320 i,
      bit_at_and a b i,
      low,
      high,
      bit_at-lt a i,
      bit_at-lt b i,
    )

pub met_fixed : (a b i : ℕ) → i < 32 → bit_at (met a b) (32 + i) ≡ max (bit_at a (32 + i)) (bit_at b (32 + i))
met_fixed a b i within =
    let low : bit_at 4294967295 (32 + i) ≡ 0 = bit_at_ones_above 32 (32 + i) (omega arith) in
    let high : bit_at 18446744069414584320 (32 + i) ≡ 1 = bit_at_mask_inside 32 64 (32 + i) (omega arith) (omega arith) in
    omega (
      arith,
      bit_at_or (bit_and (bit_and a b) 4294967295) (bit_and (bit_or a b) 18446744069414584320) (32 + i),
      bit_at_and (bit_and a b) 4294967295 (32 + i),
      bit_at_and (bit_or a b) 18446744069414584320 (32 + i),
      bit_at_or a b (32 + i),
      low,
      high,
      bit_at-lt a (32 + i),
      bit_at-lt b (32 + i),
    )

pub times-append : (x : ℕ) (xs ys : List ℕ) → times x (xs ++ ys) ≡ times x xs + times x ys
times-append x xs ys = sum_by-append _ xs ys

-- the list of one variable, or of none
times_if_same : (b x : ℕ) → b < 2 → times x (var_if b x) ≡ b
times_if_same zero x small = refl
times_if_same (suc b) x small =
    let one : suc b ≡ 1 = omega arith in
    rw (eq-eqb x x refl) (sym one)

times_if_other : (b x y : ℕ) → y ≢ x → times x (var_if b y) ≡ 0
times_if_other zero x y other = refl
times_if_other (suc b) x y other = rw (ne_eqb y x other) refl

pub times_from_else : (k x mask y : ℕ) → (y < x) ⊎ (x + k ≤ y) → times y (vars_from k x mask) ≡ 0
unfolding vars_from
times_from_else zero x mask y out = refl
times_from_else (suc k) x mask y out =
    let other : x ≢ y = ⊎_elim (λ (h : y < x). λ (e : x ≡ y). omega arith) (λ (h : x + suc k ≤ y). λ (e : x ≡ y). omega arith) out in
    let rest : times y (vars_from k (suc x) (mask / 2)) ≡ 0 =
    times_from_else k (suc x) (mask / 2) y (⊎_elim (λ (h : y < x). inl (omega arith)) (λ (h : x + suc k ≤ y). inr (omega arith)) out) in
    omega (arith, times-append y (var_if (mask % 2) x) (vars_from k (suc x) (mask / 2)), times_if_other (mask % 2) y x other, rest)

pub times_from : (k x mask i y : ℕ) → i < k → x + i ≡ y → times y (vars_from k x mask) ≡ bit_at mask i
unfolding vars_from
times_from zero x mask i y within is = absurd (omega arith)
times_from (suc k) x mask zero y within is =
    let same : x ≡ y = omega arith in
    let first : times y (var_if (mask % 2) x) ≡ mask % 2 = subst (λ (z : ℕ). times y (var_if (mask % 2) z) ≡ mask % 2) (sym same) (times_if_same (mask % 2) y (omega arith)) in
    let rest : times y (vars_from k (suc x) (mask / 2)) ≡ 0 = times_from_else k (suc x) (mask / 2) y (inl (omega arith)) in
    omega (arith, times-append y (var_if (mask % 2) x) (vars_from k (suc x) (mask / 2)), first, rest, bit_at_lowest mask)
times_from (suc k) x mask (suc i) y within is =
    let other : x ≢ y = λ (e : x ≡ y). omega arith in
    let rest : times y (vars_from k (suc x) (mask / 2)) ≡ bit_at (mask / 2) i = times_from k (suc x) (mask / 2) i y (omega arith) (omega arith) in
    omega (arith, times-append y (var_if (mask % 2) x) (vars_from k (suc x) (mask / 2)), times_if_other (mask % 2) y x other, rest, bit_at-suc mask i)

pub times_vars_of : (c g mask : ℕ) → c / 32 ≡ g → times (suc c) (vars_of g mask) ≡ bit_at mask (c % 32)
unfolding vars_of
times_vars_of c g mask is = times_from 32 (suc (32 * g)) mask (c % 32) (suc c) (omega arith) (omega arith)

pub times_vars_else : (c g mask : ℕ) → c / 32 ≢ g → times (suc c) (vars_of g mask) ≡ 0
unfolding vars_of
times_vars_else c g mask other =
    times_from_else 32 (suc (32 * g)) mask (suc c)
    (⊎_elim (λ (h : c / 32 < g). inl (omega arith)) (λ (h : g < c / 32). inr (omega arith)) (apart (c / 32) g other))
  where
    apart : (a b : ℕ) → a ≢ b → (a < b) ⊎ (b < a)
    apart a b ne = grind arith

pub times_vars_zero : (g mask : ℕ) → times 0 (vars_of g mask) ≡ 0
unfolding vars_of
times_vars_zero g mask = times_from_else 32 (suc (32 * g)) mask 0 (inl (omega arith))

-- one bit more
pub vars_from_more : (k x mask : ℕ) → vars_from (suc k) x mask ≡ vars_from k x mask ++ var_if (bit_at mask k) (x + k)
unfolding vars_from
vars_from_more zero x mask =
    let here : x ≡ x + 0 = omega arith in
    append-nil (var_if (mask % 2) x) ∙ ap (λ (b : ℕ). var_if b x) (sym (bit_at_lowest mask)) ∙ ap (λ (y : ℕ). var_if (bit_at mask 0) y) here
vars_from_more (suc k) x mask =
    let place : suc x + k ≡ x + suc k = omega arith in
    ap (λ (ys : List ℕ). var_if (mask % 2) x ++ ys) (vars_from_more k (suc x) (mask / 2))
    ∙ sym (append_assoc (var_if (mask % 2) x) (vars_from k (suc x) (mask / 2)) (var_if (bit_at (mask / 2) k) (suc x + k)))
    ∙ ap (λ (b : ℕ). (var_if (mask % 2) x ++ vars_from k (suc x) (mask / 2)) ++ var_if b (suc x + k)) (sym (bit_at-suc mask k))
    ∙ ap (λ (y : ℕ). (var_if (mask % 2) x ++ vars_from k (suc x) (mask / 2)) ++ var_if (bit_at mask (suc k)) y) place

pub vars_of_upto : (g mask k : ℕ) → k ≡ 32 → vars_from k (suc (32 * g)) mask ≡ vars_of g mask
unfolding vars_of
vars_of_upto g mask k all = ap (λ (n : ℕ). vars_from n (suc (32 * g)) mask) all

pub vars_from_start : (x mask : ℕ) → vars_from 0 x mask ≡ []
unfolding vars_from
vars_from_start x mask = refl

-- the variables of one bit more
pub vars_next : (g mask k b var : ℕ) (now next : List ℕ) → bit_at mask k ≡ b → var ≡ 32 * g + k + 1
    → now ≡ vars_from k (suc (32 * g)) mask → next ≡ now ++ var_if b var → next ≡ vars_from (k + 1) (suc (32 * g)) mask
vars_next g mask k b var now next bit var_is before step =
    let place : var ≡ suc (32 * g) + k = omega arith in
    let more : suc k ≡ k + 1 = omega arith in
    step
    ∙ ap (λ (xs : List ℕ). xs ++ var_if b var) before
    ∙ ap (λ (y : ℕ). vars_from k (suc (32 * g)) mask ++ var_if b y) place
    ∙ ap (λ (c : ℕ). vars_from k (suc (32 * g)) mask ++ var_if c (suc (32 * g) + k)) (sym bit)
    ∙ sym (vars_from_more k (suc (32 * g)) mask)
    ∙ ap (λ (n : ℕ). vars_from n (suc (32 * g)) mask) more
