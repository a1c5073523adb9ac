-- The witnesses of a group's drops, one bit after the other.
use Rattle.std.proofs.Common.{◌≡◌, ◌≢◌, ℕ, zero, suc, ◌+◌, ◌-◌, ◌*◌, ◌<◌, ◌≤◌, Bool, true, false, nat_eq, List, [], ◌∷◌, ◌++◌, length, map, sym, ap, ◌∙◌, subst, append_assoc, length-append, arith}
use Rattle.std.specs.Int.{bit_at}
use Rattle.std.proofs.lemmas.List.{append-nil, map-append, length-map}
use Rattle.std.proofs.lemmas.Nat.Bits.{bit_at-lt}
use Rattle.board_core.specs.Words.{var_if, vars_from, vars_of}
use Rattle.board_core.proofs.Bits.{vars_from_more, vars_from_start, vars_of_upto}
use Rattle.model_store.specs.declared.witness.Witness.{Witness}
use Rattle.worker_loop.proofs.Picks.{bit_on, bit_off}

-- the list has the witnesses of the bits below k behind the start
abbrev pub IsRecorded : (ℕ → Witness) → ℕ → ℕ → ℕ → List Witness → List Witness → Type 0
IsRecorded w g mask k start now = now ≡ start ++ map w (vars_from k (suc (32 * g)) mask)

pub recorded_none : (w : ℕ → Witness) (g mask : ℕ) (start : List Witness) → IsRecorded w g mask 0 start start
recorded_none w g mask start =
    sym (append-nil start) ∙ ap (λ (xs : List ℕ). start ++ map w xs) (sym (vars_from_start (suc (32 * g)) mask))

recorded_next : (w : ℕ → Witness) (g mask k b : ℕ) (start now next : List Witness) → bit_at mask k ≡ b
    → IsRecorded w g mask k start now → next ≡ now ++ map w (var_if b (suc (32 * g) + k)) → IsRecorded w g mask (k + 1) start next
recorded_next w g mask k b start now next bit before step =
    let more : suc k ≡ k + 1 = omega arith in
    step
    ∙ ap (λ (xs : List Witness). xs ++ map w (var_if b (suc (32 * g) + k))) before
    ∙ append_assoc start (map w (vars_from k (suc (32 * g)) mask)) (map w (var_if b (suc (32 * g) + k)))
    ∙ ap (λ (xs : List Witness). start ++ xs) (sym (map-append w (vars_from k (suc (32 * g)) mask) (var_if b (suc (32 * g) + k))))
    ∙ ap (λ (c : ℕ). start ++ map w (vars_from k (suc (32 * g)) mask ++ var_if c (suc (32 * g) + k))) (sym bit)
    ∙ ap (λ (xs : List ℕ). start ++ map w xs) (sym (vars_from_more k (suc (32 * g)) mask))
    ∙ ap (λ (n : ℕ). start ++ map w (vars_from n (suc (32 * g)) mask)) more

pub recorded_on : (w : ℕ → Witness) (g mask k : ℕ) (h : Bool) (start now next : List Witness) → h ≡ nat_eq (bit_at mask k) 1 → h ≡ true
    → IsRecorded w g mask k start now → next ≡ now ++ w (32 * g + k + 1) ∷ [] → IsRecorded w g mask (k + 1) start next
recorded_on w g mask k h start now next bit on before step =
    let place : 32 * g + k + 1 ≡ suc (32 * g) + k = omega arith in
    recorded_next w g mask k 1 start now next (bit_on mask k h bit on) before
    (step ∙ ap (λ (x : ℕ). now ++ w x ∷ []) place)

pub recorded_off : (w : ℕ → Witness) (g mask k : ℕ) (h : Bool) (start now next : List Witness) → h ≡ nat_eq (bit_at mask k) 1 → h ≡ false
    → IsRecorded w g mask k start now → next ≡ now → IsRecorded w g mask (k + 1) start next
recorded_off w g mask k h start now next bit off before step =
    let apart : bit_at mask k ≢ 1 = λ (on : bit_at mask k ≡ 1). bit_off mask k h bit off on in
    let none : bit_at mask k ≡ 0 = omega (arith, bit_at-lt mask k) in
    recorded_next w g mask k 0 start now next none before (step ∙ sym (append-nil now))

pub recorded_all : (w : ℕ → Witness) (g mask k : ℕ) (start now : List Witness) → k ≡ 32 → IsRecorded w g mask k start now
    → now ≡ start ++ map w (vars_of g mask)
recorded_all w g mask k start now all is =
    is ∙ ap (λ (xs : List ℕ). start ++ map w xs) (vars_of_upto g mask k all)

-- the variables of the lowest bits are no more than all
fewer_below : (n k x mask : ℕ) → length (vars_from k x mask) ≤ length (vars_from (k + n) x mask)
fewer_below zero k x mask = ap_le (k + 0) (omega arith)
  where
    ap_le : (m : ℕ) → k ≡ m → length (vars_from k x mask) ≤ length (vars_from m x mask)
    ap_le m e = subst (λ (j : ℕ). length (vars_from k x mask) ≤ length (vars_from j x mask)) e (omega arith)
fewer_below (suc n) k x mask =
    let place : k + suc n ≡ suc (k + n) = omega arith in
    let here : length (vars_from (suc (k + n)) x mask) ≡ length (vars_from (k + n) x mask) + length
    (var_if (bit_at mask (k + n)) (x + (k + n))) =
    ap length (vars_from_more (k + n) x mask) ∙ length-append (vars_from (k + n) x mask) (var_if (bit_at mask (k + n)) (x + (k + n))) in
    subst (λ (m : ℕ). length (vars_from k x mask) ≤ length (vars_from m x mask)) (sym place) (omega (arith, here, fewer_below n k x mask))

-- where a bit is on, there is still room for its witness
pub room_left : (w : ℕ → Witness) (g mask k capacity : ℕ) (h : Bool) (start now : List Witness) → k < 32 → h ≡ nat_eq (bit_at mask k) 1
    → h ≡ true → IsRecorded w g mask k start now → length start + length (vars_of g mask) ≤ capacity → length now < capacity
room_left w g mask k capacity h start now within bit on is room =
    let all : k + 1 + (32 - (k + 1)) ≡ 32 = omega arith in
    let more : suc k ≡ k + 1 = omega arith in
    let last : length (vars_from (k + 1) (suc (32 * g)) mask) ≤ length (vars_of g mask) =
    subst (λ (ys : List ℕ). length (vars_from (k + 1) (suc (32 * g)) mask) ≤ length ys) (vars_of_upto g mask (k + 1 + (32 - (k + 1))) all)
    (fewer_below (32 - (k + 1)) (k + 1) (suc (32 * g)) mask) in
    let one : bit_at mask k ≡ 1 = bit_on mask k h bit on in
    let here : length (vars_from (k + 1) (suc (32 * g)) mask) ≡ length (vars_from k (suc (32 * g)) mask) + 1 =
    ap (λ (n : ℕ). length (vars_from n (suc (32 * g)) mask)) (sym more)
    ∙ ap length (vars_from_more k (suc (32 * g)) mask ∙ ap (λ (b : ℕ). vars_from k (suc (32 * g)) mask ++ var_if b (suc (32 * g) + k)) one)
    ∙ length-append (vars_from k (suc (32 * g)) mask) ((suc (32 * g) + k) ∷ []) in
    omega (
      arith,
      ap length is,
      length-append start (map w (vars_from k (suc (32 * g)) mask)),
      length-map
          (vars_from k (suc (32 * g)) mask) w,
    )
