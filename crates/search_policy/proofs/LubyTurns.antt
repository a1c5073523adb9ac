-- The terms of Luby's sequence, step by step.
use Rattle.std.proofs.Common.{◌≡◌, ◌≢◌, ℕ, zero, suc, ◌+◌, ◌-◌, ◌*◌, ◌/◌, ◌^◌, ◌<◌, ◌≤◌}
use Rattle.std.proofs.Common.{refl, sym, ap, ◌∙◌, subst, arith}
use Rattle.std.proofs.Math.Nat.{pow-suc, one-le-pow}
use Rattle.std.proofs.lemmas.Bool.{eq-eqb, ne_eqb, lt-ltb, le-ltb}
use Rattle.search_policy.specs.Luby.{luby_upto, luby_term}

-- half of the size, with one round less
pub half_size : (r size : ℕ) → 0 < r → size ≡ 2 ^ r → size / 2 ≡ 2 ^ (r - 1)
half_size zero size some is = absurd (omega arith)
half_size (suc k) size some is =
    let before : suc k - 1 ≡ k = omega arith in
    rw before (omega (arith, is, pow-suc 2 k))

-- twice that half is the size
pub twice_half : (r size : ℕ) → 0 < r → size ≡ 2 ^ r → 2 * (size / 2) ≡ 2 ^ r
twice_half zero size some is = absurd (omega arith)
twice_half (suc k) size some is = omega (arith, is, pow-suc 2 k)

pub luby_last : (r i : ℕ) → 0 < r → i ≡ 2 ^ r - 1 → luby_upto r i ≡ 2 ^ (r - 1)
unfolding luby_upto
luby_last zero i some last = absurd (omega arith)
luby_last (suc k) i some last =
    let before : suc k - 1 ≡ k = omega arith in
    rw (before, eq-eqb i (2 ^ suc k - 1) last) refl

pub luby_low : (r i : ℕ) → 0 < r → i ≢ 2 ^ r - 1 → i < 2 ^ (r - 1) → luby_upto r i ≡ luby_upto (r - 1) i
unfolding luby_upto
luby_low zero i some other low = absurd (omega arith)
luby_low (suc k) i some other low =
    let before : suc k - 1 ≡ k = omega arith in
    let below : i < 2 ^ k = subst (λ (j : ℕ). i < 2 ^ j) before low in
    rw (before, ne_eqb i (2 ^ suc k - 1) other, lt-ltb i (2 ^ k) below) refl

pub luby_high : (r i : ℕ) → 0 < r → i ≢ 2 ^ r - 1 → 2 ^ (r - 1) ≤ i
    → luby_upto r i ≡ luby_upto (r - 1) (i + 1 - 2 ^ (r - 1))
unfolding luby_upto
luby_high zero i some other high = absurd (omega arith)
luby_high (suc k) i some other high =
    let before : suc k - 1 ≡ k = omega arith in
    let above : 2 ^ k ≤ i = subst (λ (j : ℕ). 2 ^ j ≤ i) before high in
    rw (before, ne_eqb i (2 ^ suc k - 1) other, le-ltb i (2 ^ k) above) refl

luby_first : (k : ℕ) → luby_upto k 1 ≡ 1
unfolding luby_upto
luby_first zero = refl
luby_first (suc zero) = refl
luby_first (suc (suc k)) =
    let powers : 1 ≤ 2 ^ k = one-le-pow k 2 (omega arith) in
    let before : suc (suc k) - 1 ≡ suc k = omega arith in
    luby_low (suc (suc k)) 1 (omega arith) (λ (same : 1 ≡ 2 ^ suc (suc k) - 1). absurd
    (omega (arith, same, powers, pow-suc 2 k, pow-suc 2 (suc k))))
    (subst (λ (j : ℕ). 1 < 2 ^ j) (sym before) (omega (arith, powers, pow-suc 2 k)))
    ∙ ap (λ (j : ℕ). luby_upto j 1) before ∙ luby_first (suc k)

pub luby_one : luby_term 1 ≡ 1
luby_one = luby_first 41
