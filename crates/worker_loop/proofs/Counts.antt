-- How many candidates were open and are closed now.
use Rattle.std.proofs.Common.{◌≡◌, ◌≢◌, ℕ, zero, suc, ◌+◌, ◌/◌, ◌%◌, ◌<◌, ◌≤◌, min, List, length, refl, sym, subst, ⊎_elim, arith}
use Rattle.std.proofs.lemmas.Bool.{cases_eq, cases_lt}
use Rattle.board_core.specs.Subjects.{groups}
use Rattle.board_core.specs.Words.{open_at, times}
use Rattle.board_core.specs.Rules.{AreEarlier}
use Rattle.board_core.proofs.Totals.{total, total_length}
use Rattle.core_chunks.specs.Chunks.{open_count, IsBlockOf}
use Rattle.worker_loop.specs.Turns.{closed_count}

-- no candidate opens
pub open_later : (n : ℕ) (was now : List ℕ) → AreEarlier (groups n) was now → (x : ℕ) → x ≤ n → open_at now x ≤ open_at was x
open_later n was now later zero low = omega arith
open_later n was now later (suc c) low =
    let both = later (c / 32) (omega arith) (c % 32) (omega arith) in
    omega (arith, both.0, both.1)

-- what was open is open now or closed
pub open_and_closed : (was now : List ℕ) (n : ℕ) → ((x : ℕ) → x ≤ n → open_at now x ≤ open_at was x)
    → open_count now n + closed_count was now n ≡ open_count was n
unfolding open_count closed_count
open_and_closed was now zero less = refl
open_and_closed was now (suc n) less = omega (arith, open_and_closed was now n (λ x low. less x (omega arith)), less (suc n) (omega arith))

-- one that was open and is closed counts
pub closed_one : (was now : List ℕ) (n x : ℕ) → 0 < x → x ≤ n → open_at was x ≡ 1 → open_at now x ≡ 0 → 0 < closed_count was now n
unfolding closed_count
closed_one was now zero x low high was_open closed = absurd (omega arith)
closed_one was now (suc n) x low high was_open closed =
    ⊎_elim
    (λ (same : x ≡ suc n).
    let w : open_at was (suc n) ≡ 1 = subst (λ (k : ℕ). open_at was k ≡ 1) same was_open in
    let c : open_at now (suc n) ≡ 0 = subst (λ (k : ℕ). open_at now k ≡ 0) same closed in
    omega arith)
    (λ (other : x ≢ suc n). omega (arith, closed_one was now n x low (omega arith) was_open closed))
    (cases_eq x (suc n))

-- so many members of a list that were open, each once, and are closed
closed_total : (was now block : List ℕ) (n : ℕ) → ((x : ℕ) → times x block ≤ open_at was x)
    → ((x : ℕ) → 1 ≤ times x block → open_at now x ≡ 0) → total block n ≤ closed_count was now n
unfolding total closed_count
closed_total was now block zero once closed = omega arith
closed_total was now block (suc n) once closed =
    let rest : total block n ≤ closed_count was now n = closed_total was now block n once closed in
    ⊎_elim
    (λ (none : times (suc n) block < 1). omega arith)
    (λ (some : 1 ≤ times (suc n) block). omega (arith, once (suc n), closed (suc n) some))
    (cases_lt (times (suc n) block) 1)

-- where a block is closed, as many are as it may have, or all that were open
pub closed_block : (was now block : List ℕ) (n size : ℕ) → IsBlockOf was n size block → ((x : ℕ) → 1 ≤ times x block → open_at now x ≡ 0)
    → min size (open_count was n) ≤ closed_count was now n
closed_block was now block n size is closed =
    let none : times 0 block ≡ 0 = ⊎_elim (λ (h : times 0 block < 1). omega arith) (λ (h : 1 ≤ times 0 block). let low = (is.within 0 h).0 in absurd (omega arith)) (cases_lt (times 0 block) 1) in
    let past : (x : ℕ) → n < x → times x block ≡ 0 = λ x h.
    ⊎_elim (λ (l : times x block < 1). omega arith) (λ (l : 1 ≤ times x block). let high = (is.within x l).1 in absurd (omega arith)) (cases_lt (times x block) 1) in
    let size_is : length block ≡ total block n = total_length block n none past in
    subst (λ (k : ℕ). k ≤ closed_count was now n) is.count
    (subst (λ (k : ℕ). k ≤ closed_count was now n) (sym size_is) (closed_total was now block n is.once closed))
