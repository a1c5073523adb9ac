-- A block that may have every variable has every open one.
use Rattle.std.proofs.Common.{◌≡◌, ◌≢◌, ℕ, zero, suc, ◌/◌, ◌%◌, ◌<◌, ◌≤◌, Bool, cond, List, [], ◌∷◌, length, Contains, sym, ap, ◌∙◌, subst, ⊎_elim, arith}
use Rattle.std.specs.Prelude.{nat_eq, slice_index}
use Rattle.std.proofs.lemmas.Bool.{cases_eq, cases_lt, ne_eqb}
use Rattle.std.proofs.lemmas.List.Sums.{sum_by-cons}
use Rattle.std.proofs.lemmas.Nat.Bits.{bit_at-lt}
use Rattle.cnf_core.proofs.Lists.{Contains-head, Contains-tail}
use Rattle.board_core.specs.Words.{open_at, times}
use Rattle.board_core.proofs.Totals.{total, total_length}
use Rattle.core_chunks.specs.Chunks.{open_count, IsBlockOf}

abbrev mark : Bool → ℕ
mark b = cond b 1 0

-- what stands in the list is a member
pub member_times : (xs : List ℕ) (x : ℕ) → 1 ≤ times x xs → Contains xs x
member_times [] x some = absurd (omega (arith, some))
member_times (y ∷ xs) x some =
    ⊎_elim
    (λ (same : y ≡ x). subst (λ (k : ℕ). Contains (y ∷ xs) k) same (Contains-head y xs))
    (λ (other : y ≢ x).
    let none : mark (nat_eq y x) ≡ 0 = ap mark (ne_eqb y x other) in
    Contains-tail y xs x (member_times xs x (omega (arith, some, sum_by-cons (λ (z : ℕ). mark (nat_eq z x)) y xs, none))))
    (cases_eq y x)

pub open-le-one : (ws : List ℕ) (x : ℕ) → open_at ws x ≤ 1
open-le-one ws zero = omega arith
open-le-one ws (suc c) = omega (arith, bit_at-lt (slice_index ws (c / 32)) (c % 32))

pub open_most : (ws : List ℕ) (n : ℕ) → open_count ws n ≤ n
unfolding open_count
open_most ws zero = omega arith
open_most ws (suc n) = omega (arith, open_most ws n, open-le-one ws (suc n))

total_most : (ws xs : List ℕ) (n : ℕ) → ((x : ℕ) → times x xs ≤ open_at ws x) → total xs n ≤ open_count ws n
unfolding total open_count
total_most ws xs zero less = omega arith
total_most ws xs (suc n) less = omega (arith, total_most ws xs n less, less (suc n))

-- where the sums are the same, each part is
same_parts : (ws xs : List ℕ) (n x : ℕ) → ((y : ℕ) → times y xs ≤ open_at ws y) → total xs n ≡ open_count ws n → 0 < x → x ≤ n
    → times x xs ≡ open_at ws x
unfolding total open_count
same_parts ws xs zero x less same low high = absurd (omega arith)
same_parts ws xs (suc n) x less same low high =
    let rest : total xs n ≤ open_count ws n = total_most ws xs n less in
    let last : times (suc n) xs ≤ open_at ws (suc n) = less (suc n) in
    ⊎_elim
    (λ (here : x ≡ suc n). subst (λ (k : ℕ). times k xs ≡ open_at ws k) (sym here) (omega (arith, rest, last, same)))
    (λ (other : x ≢ suc n). same_parts ws xs n x less (omega (arith, rest, last, same)) low (omega arith))
    (cases_eq x (suc n))

pub all_in_block : (ws block : List ℕ) (n x : ℕ) → IsBlockOf ws n n block → 0 < x → x ≤ n → open_at ws x ≡ 1 → Contains block x
all_in_block ws block n x is low high was_open =
    let none : times 0 block ≡ 0 =
    ⊎_elim (λ (h : times 0 block < 1). omega arith) (λ (h : 1 ≤ times 0 block). let l = (is.within 0 h).0 in absurd (omega arith)) (cases_lt (times 0 block) 1) in
    let past : (y : ℕ) → n < y → times y block ≡ 0 = λ y h.
    ⊎_elim (λ (l : times y block < 1). omega arith) (λ (l : 1 ≤ times y block). let m = (is.within y l).1 in absurd (omega arith)) (cases_lt (times y block) 1) in
    let size : length block ≡ total block n = total_length block n none past in
    let count : length block ≡ open_count ws n = omega (arith, is.count, open_most ws n) in
    member_times block x (omega (arith, same_parts ws block n x is.once (sym size ∙ count) low high, was_open))
