-- What a look at a group's word leaves of a seat: the event Drop of no variable.
use Rattle.std.proofs.Common.{◌≡◌, ◌≢◌, ℕ, suc, ◌+◌, ◌-◌, ◌/◌, ◌%◌, ◌<◌, ◌≤◌, false, true≢false, List, ◌++◌, length, sym, ap, ◌∙◌, subst, ⊎_elim, arith}
use Rattle.std.specs.Prelude.{nat_eq, bit_and, slice_index, slice_set}
use Rattle.std.specs.Int.{bit_at}
use Rattle.std.proofs.lemmas.List.{append-nil}
use Rattle.std.proofs.lemmas.Bool.{cases_eq, eq-eqb}
use Rattle.std.proofs.lemmas.Nat.Bits.{bit_at-lt, bit_at-zero, bit_at_and, same_from_bits}
use Rattle.board_core.specs.Subjects.{About, groups}
use Rattle.board_core.specs.Words.{alive, fixed, open_at, Earlier, without, cleared}
use Rattle.board_core.specs.Rules.{AreEarlier, IsView}
use Rattle.board_core.proofs.Bits.{without_alive, without_fixed}
use Rattle.board_core.proofs.Steps.{earlier_refl, earlier_trans, alive_set, fixed_set, are_earlier_on}
use Rattle.core_chunks.specs.Chunks.{open_mask}
use Rattle.core_chunks.proofs.Parts.{open_bit}
use Rattle.candidate_words.specs.Seats.{Sitter, HasRefreshed}
use Rattle.worker_loop.proofs.Fixed.{no_vars}

cleared_none : (w : ℕ) → cleared w 0 ≡ 0
cleared_none w = same_from_bits (bit_and w 0) 0 (λ i. omega (arith, bit_at_and w 0 i, bit_at-zero i))

-- no drop was won
pub drops_refreshed : (s t : Sitter) (g answer : ℕ) → HasRefreshed s g answer t → t.view.drops ≡ s.view.drops
drops_refreshed s t g answer is =
    ap (λ (u : Sitter). u.view.drops) is.seat
    ∙ ap (λ (xs : List ℕ). s.view.drops ++ xs) (no_vars g (cleared answer 0) (cleared_none answer))
    ∙ append-nil s.view.drops

-- what is seen is the word that was found
same_alive : (w i : ℕ) → i < 32 → bit_at (without w 0) i ≡ bit_at w i
same_alive w i within = omega (arith, without_alive w 0 i (omega arith) within, bit_at-zero i, bit_at-lt w i)

same_fixed : (w i : ℕ) → i < 32 → bit_at (without w 0) (32 + i) ≡ bit_at w (32 + i)
same_fixed w i within = without_fixed w 0 i (omega arith) within

earlier_same : (w : ℕ) → Earlier w (without w 0)
earlier_same w i within =
    let low = same_alive w i within in
    let up = same_fixed w i within in
    (omega (arith, low), omega (arith, up))

pub seen_refreshed : (a : About) (s t : Sitter) (g answer : ℕ) → HasRefreshed s g answer t → IsView a s.view → g < groups a.formula.vars
    → AreEarlier (groups a.formula.vars) s.view.seen t.view.seen
seen_refreshed a s t g answer is view low =
    let list : t.view.seen ≡ slice_set s.view.seen g (without answer 0) = ap (λ (u : Sitter). u.view.seen) is.seat in
    let size = view.seen.size in
    subst (λ (ws : List ℕ). AreEarlier (groups a.formula.vars) s.view.seen ws) (sym list)
    (are_earlier_on (groups a.formula.vars) s.view.seen s.view.seen g (without answer 0) (omega arith) low
    (λ h below. earlier_refl (slice_index s.view.seen h))
    (earlier_trans (slice_index s.view.seen g) answer (without answer 0) is.finds.later (earlier_same answer)))

not_one : (n : ℕ) → nat_eq n 1 ≡ false → n ≢ 1
not_one n is same = true≢false (sym (eq-eqb n 1 same) ∙ is)

-- a variable whose bit isn't open in the word that was found is closed
pub refreshed_closed : (a : About) (s t : Sitter) (x g answer mask : ℕ) → HasRefreshed s g answer t → IsView a s.view → 0 < x
    → x ≤ a.formula.vars → g ≡ (x - 1) / 32 → answer < 18446744073709551616 → mask ≡ open_mask answer
    → nat_eq (bit_at mask ((x - 1) % 32)) 1 ≡ false → open_at t.view.seen x ≡ 0
refreshed_closed a s t x g answer mask is view low high group fits mask_is closed =
    let list : t.view.seen ≡ slice_set s.view.seen g (without answer 0) = ap (λ (u : Sitter). u.view.seen) is.seat in
    let size = view.seen.size in
    let here : (x - 1) / 32 ≡ g = sym group in
    let within : g < length s.view.seen = omega arith in
    let now_alive : alive (slice_set s.view.seen g (without answer 0)) (suc (x - 1)) ≡ bit_at answer ((x - 1) % 32) =
    alive_set s.view.seen g (without answer 0) (x - 1) (λ (b : ℕ). b ≡ bit_at answer ((x - 1) % 32)) within
    (λ _. same_alive answer ((x - 1) % 32) (omega arith)) (λ other. absurd (other here)) in
    let now_fixed : fixed (slice_set s.view.seen g (without answer 0)) (suc (x - 1)) ≡ bit_at answer (32 + (x - 1) % 32) =
    fixed_set s.view.seen g (without answer 0) (x - 1) (λ (b : ℕ). b ≡ bit_at answer (32 + (x - 1) % 32)) within
    (λ _. same_fixed answer ((x - 1) % 32) (omega arith)) (λ other. absurd (other here)) in
    let bit : bit_at mask ((x - 1) % 32) ≡ bit_at answer ((x - 1) % 32) - bit_at answer (32 + (x - 1) % 32) =
    ap (λ (m : ℕ). bit_at m ((x - 1) % 32)) mask_is ∙ open_bit answer ((x - 1) % 32) fits (omega arith) in
    let none : bit_at answer ((x - 1) % 32) - bit_at answer (32 + (x - 1) % 32) ≡ 0 =
    ⊎_elim (λ (one : bit_at mask ((x - 1) % 32) ≡ 1). absurd (not_one (bit_at mask ((x - 1) % 32)) closed one))
    (λ (other : bit_at mask ((x - 1) % 32) ≢ 1). omega (arith, bit, other, bit_at-lt mask ((x - 1) % 32)))
    (cases_eq (bit_at mask ((x - 1) % 32)) 1) in
    let place : suc (x - 1) ≡ x = omega arith in
    subst (λ (ws : List ℕ). open_at ws x ≡ 0) (sym list)
    (subst (λ (y : ℕ). open_at (slice_set s.view.seen g (without answer 0)) y ≡ 0) place (omega (arith, now_alive, now_fixed, none)))
