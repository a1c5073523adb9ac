-- What a block has: how often each variable, and how many.
use Rattle.std.proofs.Common.{◌≡◌, ◌≢◌, ℕ, zero, suc, ◌+◌, ◌-◌, ◌*◌, ◌/◌, ◌%◌, ◌<◌, ◌≤◌, ◌⊎◌, min, List, ◌++◌, length, take, drop, refl, sym, ap, ◌∙◌, inl, inr, ⊎_elim, arith}
use Rattle.std.specs.Prelude.{slice_index}
use Rattle.std.specs.Int.{bit_at}
use Rattle.std.proofs.lemmas.Bool.{cases_eq, cases_lt}
use Rattle.std.proofs.lemmas.List.{length-take, take-append-drop, get_or_past}
use Rattle.std.proofs.lemmas.Nat.Bits.{bit_at-zero}
use Rattle.board_core.specs.Words.{alive, open_at, times}
use Rattle.board_core.specs.Subjects.{About, groups, candidate}
use Rattle.board_core.specs.Rules.{AreWords}
use Rattle.board_core.proofs.Bits.{times-append, times_vars_of, times_vars_else, times_vars_zero}
use Rattle.board_core.proofs.Ends.{candidate_past}
use Rattle.board_core.proofs.Totals.{total, total_length}
use Rattle.core_chunks.specs.Chunks.{open_mask, open_in, open_in_groups, open_count, AreSeen, BlocksAreOpen}
use Rattle.core_chunks.proofs.Parts.{open_bit}

-- a variable of a group stands among its open ones where it is open
times_in : (ws : List ℕ) (g c : ℕ) → slice_index ws g < 18446744073709551616 → c / 32 ≡ g → times (suc c) (open_in ws g) ≡ open_at ws (suc c)
times_in ws g c range here =
    times_vars_of c g (open_mask (slice_index ws g)) here
    ∙ open_bit (slice_index ws g) (c % 32) range (omega arith)
    ∙ ap (λ (h : ℕ). bit_at (slice_index ws h) (c % 32) - bit_at (slice_index ws h) (32 + c % 32)) (sym here)

times_groups_else : (ws : List ℕ) (first n c : ℕ) → (c / 32 < first) ⊎ (first + n ≤ c / 32) → times (suc c) (open_in_groups ws first n) ≡ 0
times_groups_else ws first zero c out = refl
times_groups_else ws first (suc n) c out =
    let other : c / 32 ≢ first = ⊎_elim (λ (h : c / 32 < first). λ (e : c / 32 ≡ first). omega arith) (λ (h : first + suc n ≤ c / 32). λ (e : c / 32 ≡ first). omega arith) out in
    let rest : times (suc c) (open_in_groups ws (first + 1) n) ≡ 0 =
    times_groups_else ws (first + 1) n c (⊎_elim (λ (h : c / 32 < first). inl (omega arith)) (λ (h : first + suc n ≤ c / 32). inr (omega arith)) out) in
    omega (arith, times-append (suc c) (open_in ws first) (open_in_groups ws (first + 1) n), times_vars_else c first (open_mask (slice_index ws first)) other, rest)

times_groups : (ws : List ℕ) (first n c : ℕ) → ((g : ℕ) → slice_index ws g < 18446744073709551616) → first ≤ c / 32 → c / 32 < first + n
    → times (suc c) (open_in_groups ws first n) ≡ open_at ws (suc c)
times_groups ws first zero c fits low high = absurd (omega arith)
times_groups ws first (suc n) c fits low high =
    ⊎_elim
    (λ (here : c / 32 ≡ first).
    let rest : times (suc c) (open_in_groups ws (first + 1) n) ≡ 0 = times_groups_else ws (first + 1) n c (inl (omega arith)) in
    omega (arith, times-append (suc c) (open_in ws first) (open_in_groups ws (first + 1) n), times_in ws first c (fits first) here, rest))
    (λ (other : c / 32 ≢ first).
    omega (
      arith,
      times-append (suc c) (open_in ws first) (open_in_groups ws (first + 1) n),
      times_vars_else c first (open_mask (slice_index ws first)) other,
      times_groups ws (first + 1) n c fits (omega arith) (omega arith),
    ))
    (cases_eq (c / 32) first)

times_groups_zero : (ws : List ℕ) (first n : ℕ) → times 0 (open_in_groups ws first n) ≡ 0
times_groups_zero ws first zero = refl
times_groups_zero ws first (suc n) =
    omega (
      arith,
      times-append 0 (open_in ws first) (open_in_groups ws (first + 1) n),
      times_vars_zero first (open_mask (slice_index ws first)),
      times_groups_zero ws (first + 1) n,
    )

closed_past : (ws : List ℕ) (c : ℕ) → length ws ≤ c / 32 → open_at ws (suc c) ≡ 0
closed_past ws c past =
    let none : alive ws (suc c) ≡ 0 = ap (λ (w : ℕ). bit_at w (c % 32)) (get_or_past ws (c / 32) 0 past) ∙ bit_at-zero (c % 32) in
    omega arith

-- all of them, in the order of a block
abbrev all_from : List ℕ → ℕ → List ℕ
all_from ws first = open_in_groups ws first (length ws - first) ++ open_in_groups ws 0 first

times_all : (ws : List ℕ) (first x : ℕ) → ((g : ℕ) → slice_index ws g < 18446744073709551616) → first ≤ length ws → times x (all_from ws first) ≡ open_at ws x
times_all ws first zero fits within =
    omega (arith, times-append 0 (open_in_groups ws first (length ws - first)) (open_in_groups ws 0 first), times_groups_zero ws first (length ws - first), times_groups_zero ws 0 first)
times_all ws first (suc c) fits within =
    let parts = times-append (suc c) (open_in_groups ws first (length ws - first)) (open_in_groups ws 0 first) in
    ⊎_elim
    (λ (front : c / 32 < first).
    omega (arith, parts, times_groups_else ws first (length ws - first) c (inl front), times_groups ws 0 first c fits (omega arith) (omega arith)))
    (λ (behind : first ≤ c / 32).
    let none = times_groups_else ws 0 first c (inr (omega arith)) in
    ⊎_elim
    (λ (low : c / 32 < length ws). omega (arith, parts, none, times_groups ws first (length ws - first) c fits behind (omega arith)))
    (λ (past : length ws ≤ c / 32).
    omega (arith, parts, none, times_groups_else ws first (length ws - first) c (inr (omega arith)), closed_past ws c past))
    (cases_lt (c / 32) (length ws)))
    (cases_lt (c / 32) first)

total_open : (ws xs : List ℕ) (n : ℕ) → ((x : ℕ) → times x xs ≡ open_at ws x) → total xs n ≡ open_count ws n
unfolding total open_count
total_open ws xs zero same = refl
total_open ws xs (suc n) same = omega (arith, total_open ws xs n same, same (suc n))

times_take : (x size : ℕ) (xs : List ℕ) → times x (take size xs) ≤ times x xs
times_take x size xs =
    omega (arith, ap (times x) (take-append-drop size xs), times-append x (take size xs) (drop size xs))

-- an open variable is one of the first n
pub open_within : (ws : List ℕ) (n : ℕ) → AreSeen ws n → (x : ℕ) → 1 ≤ open_at ws x → (0 < x) × (x ≤ n)
open_within ws n seen zero some = absurd (omega arith)
open_within ws n seen (suc c) some =
    ⊎_elim (λ (past : n < suc c). let none = seen.within (suc c) past in absurd (omega arith)) (λ (high : suc c ≤ n). (omega arith, high)) (cases_lt n (suc c))

-- the words that a view has seen or loaded
pub are_seen : (a : About) (ws : List ℕ) → AreWords a ws → ((g : ℕ) → slice_index ws g < 18446744073709551616) → AreSeen ws a.formula.vars
are_seen a ws words fits = record { fits = fits; within = past }
  where
    past : (x : ℕ) → a.formula.vars < x → open_at ws x ≡ 0
    past zero high = omega arith
    past (suc c) high =
        ⊎_elim
        (λ (low : c / 32 < groups a.formula.vars).
        let place : suc (32 * (c / 32) + c % 32) ≡ suc c = omega arith in
        let bits = (words.inside (c / 32) low (c % 32) (omega arith)).0 in
        let none : candidate a.formula (suc (32 * (c / 32) + c % 32)) ≡ 0 = ap (candidate a.formula) place ∙ candidate_past a.formula (suc c) high in
        omega arith)
        (λ (over : groups a.formula.vars ≤ c / 32). let size = words.size in closed_past ws c (omega arith))
        (cases_lt (c / 32) (groups a.formula.vars))

pub block_is_open : BlocksAreOpen
block_is_open ws n first size seen within =
    let fits : (g : ℕ) → slice_index ws g < 18446744073709551616 = seen.fits in
    let each : (x : ℕ) → times x (all_from ws first) ≡ open_at ws x = λ x. times_all ws first x fits within in
    let none : times 0 (all_from ws first) ≡ 0 = each 0 in
    let inside : (x : ℕ) → 1 ≤ open_at ws x → (0 < x) × (x ≤ n) = open_within ws n seen in
    record {
      once = λ x. omega (arith, times_take x size (all_from ws first), each x);
      within = λ x some. inside x (omega (arith, times_take x size (all_from ws first), each x));
      count =
          length-take size (all_from ws first)
          ∙ ap (min size) (total_length (all_from ws first) n none (λ x past. each x ∙ seen.within x past) ∙ total_open ws (all_from ws first) n each);
    }
