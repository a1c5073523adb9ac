-- How long a list is that has each variable so often.
use Rattle.std.proofs.Common.{◌≡◌, ◌≢◌, ℕ, zero, suc, ◌+◌, ◌<◌, ◌≤◌, Bool, cond, List, [], ◌∷◌, length, sym, ap, subst, refl, ⊎_elim, arith}
use Rattle.std.specs.Prelude.{nat_eq}
use Rattle.std.proofs.lemmas.Bool.{cases_eq, cases_lt, eq-eqb, ne_eqb}
use Rattle.std.proofs.lemmas.List.Sums.{sum_by-cons}
use Rattle.cnf_core.specs.Formulas.{Cnf}
use Rattle.board_core.specs.Subjects.{About, candidate}
use Rattle.board_core.specs.Words.{times}
use Rattle.board_core.specs.Rules.{IsOnce}
use Rattle.board_core.specs.declared.view.View.{View}
use Rattle.board_core.proofs.Ends.{candidate-lt, candidate_within, candidate_past}

-- how often the list has the variables 1 to n
unfoldable pub total : List ℕ → ℕ → ℕ
total xs zero = 0
total xs (suc n) = total xs n + times (suc n) xs

abbrev mark : Bool → ℕ
mark b = cond b 1 0

total-nil : (n : ℕ) → total [] n ≡ 0
unfolding total
total-nil zero = refl
total-nil (suc n) = omega (arith, total-nil n)

times_cons_same : (y : ℕ) (ys : List ℕ) → times y (y ∷ ys) ≡ times y ys + 1
times_cons_same y ys =
    let e : mark (nat_eq y y) ≡ 1 = ap mark (eq-eqb y y refl) in
    omega (arith, sum_by-cons (λ (z : ℕ). mark (nat_eq z y)) y ys, e)

times_cons_other : (x y : ℕ) (ys : List ℕ) → y ≢ x → times x (y ∷ ys) ≡ times x ys
times_cons_other x y ys other =
    let e : mark (nat_eq y x) ≡ 0 = ap mark (ne_eqb y x other) in
    omega (arith, sum_by-cons (λ (z : ℕ). mark (nat_eq z x)) y ys, e)

total_below : (y : ℕ) (ys : List ℕ) (n : ℕ) → n < y → total (y ∷ ys) n ≡ total ys n
unfolding total
total_below y ys zero below = refl
total_below y ys (suc n) below =
    omega (arith, total_below y ys n (omega arith), times_cons_other (suc n) y ys (λ (e : y ≡ suc n). omega arith))

total_cons : (y : ℕ) (ys : List ℕ) (n : ℕ) → 0 < y → y ≤ n → total (y ∷ ys) n ≡ total ys n + 1
unfolding total
total_cons y ys zero low high = absurd (omega arith)
total_cons y ys (suc n) low high =
    ⊎_elim
    (λ (same : y ≡ suc n).
    let last : times (suc n) (y ∷ ys) ≡ times (suc n) ys + 1 =
    subst (λ (k : ℕ). times k (y ∷ ys) ≡ times k ys + 1) same (times_cons_same y ys) in
    omega (arith, total_below y ys n (omega arith), last))
    (λ (other : y ≢ suc n). omega (arith, total_cons y ys n low (omega arith), times_cons_other (suc n) y ys other))
    (cases_eq y (suc n))

-- a list of variables from 1 to n is as long as it has each of them
pub total_length : (xs : List ℕ) (n : ℕ) → times 0 xs ≡ 0 → ((x : ℕ) → n < x → times x xs ≡ 0) → length xs ≡ total xs n
total_length [] n none past = sym (total-nil n)
total_length (y ∷ ys) n none past =
    let low : 0 < y = ⊎_elim (λ (same : y ≡ 0). let one : times 0 (y ∷ ys) ≡ times 0 ys + 1 = subst (λ (k : ℕ). times k (y ∷ ys) ≡ times k ys + 1) same (times_cons_same y ys) in absurd (omega arith))
    (λ (other : y ≢ 0). omega arith) (cases_eq y 0) in
    let high : y ≤ n = ⊎_elim (λ (h : n < y). absurd (omega (arith, past y h, times_cons_same y ys))) (λ (h : y ≤ n). h) (cases_lt n y) in
    let rest : length ys ≡ total ys n = total_length ys n (omega (arith, none, times_cons_other 0 y ys (λ (e : y ≡ 0). omega arith)))
    (λ x h. omega (arith, past x h, times_cons_other x y ys (λ (e : y ≡ x). omega arith))) in
    omega (arith, rest, total_cons y ys n low high)

total_few : (F : Cnf) (xs : List ℕ) (n : ℕ) → ((x : ℕ) → times x xs ≤ candidate F x) → total xs n ≤ n
unfolding total
total_few F xs zero once = omega arith
total_few F xs (suc n) once = omega (arith, total_few F xs n once, once (suc n), candidate-lt F (suc n))

no_zeroth : (F : Cnf) → candidate F 0 ≡ 0
no_zeroth F =
    ⊎_elim (λ (h : candidate F 0 < 1). omega arith)
    (λ (h : 1 ≤ candidate F 0). let low = (candidate_within F 0 h).low in absurd (omega arith))
    (cases_lt (candidate F 0) 1)

-- a list that has each candidate at most once, and nothing else, is no longer than there are variables
pub few_times : (F : Cnf) (xs : List ℕ) → ((x : ℕ) → times x xs ≤ candidate F x) → length xs ≤ F.vars
few_times F xs once =
    let none : times 0 xs ≡ 0 = omega (arith, once 0, no_zeroth F) in
    omega (arith, total_length xs F.vars none (λ x past. omega (arith, once x, candidate_past F x past)), total_few F xs F.vars once)

-- no more drops and fixes than variables
pub few_drops : (a : About) (v : View) → IsOnce a v → length v.drops ≤ a.formula.vars
few_drops a v once = few_times a.formula v.drops once.drops

pub few_fixes : (a : About) (v : View) → IsOnce a v → length v.fixes ≤ a.formula.vars
few_fixes a v once = few_times a.formula v.fixes once.fixes
