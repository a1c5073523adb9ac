-- Parts of lists of open variables.
use Rattle.std.proofs.Common.{◌≡◌, ◌≢◌, ℕ, zero, suc, ◌+◌, ◌-◌, ◌*◌, ◌/◌, ◌%◌, ◌^◌, ◌<◌, ◌≤◌, List, [], ◌∷◌, ◌++◌, length, take, refl, sym, ap, ◌∙◌, arith, length-append}
use Rattle.std.specs.Prelude.{bit_and, slice_index, nat_eq}
use Rattle.std.specs.Int.{bit_at}
use Rattle.std.specs.List.{flat_map, range_with_len}
use Rattle.std.proofs.lemmas.List.{append-nil, append_assoc, take-append-le, take_all, length-take}
use Rattle.std.proofs.lemmas.Grind.{flat_map-append}
use Rattle.std.proofs.lemmas.Nat.Bits.{bit_at_and, bit_at_not, bit_at_ones, bit_at-lt, shr_and_one}
use mir.Syntax.{w64}
use Rattle.board_core.specs.Words.{open_at, var_if, vars_from, vars_of}
use Rattle.board_core.proofs.Bits.{bit_at_upper, vars_from_more}
use Rattle.core_chunks.specs.Chunks.{open_mask, open_in, open_in_groups, is_open}

pub open_bit : (w i : ℕ) → w < 18446744073709551616 → i < 32 → bit_at (open_mask w) i ≡ bit_at w i - bit_at w (32 + i)
open_bit w i range within =
    let high : w / 4294967296 < 18446744073709551616 = omega arith in
    let rest : bit_at (18446744073709551615 - w / 4294967296) i ≡ 1 - bit_at (w / 4294967296) i = bit_at_not w64 (w / 4294967296) i high (omega arith) in
    let low : bit_at 4294967295 i ≡ 1 = bit_at_ones 32 i within in
    omega (
      arith,
      bit_at_and (bit_and w (18446744073709551615 - w / 4294967296)) 4294967295 i,
      bit_at_and w (18446744073709551615 - w / 4294967296) i,
      rest,
      low,
      bit_at_upper w i,
      bit_at-lt w i,
      bit_at-lt w (32 + i),
    )

-- a front of a front and what comes behind it
pub take_again : (size : ℕ) (xs ys : List ℕ) → take size (take size xs ++ ys) ≡ take size (xs ++ ys)
take_again zero xs ys = refl
take_again (suc size) [] ys = refl
take_again (suc size) (x ∷ xs) ys = ap (λ (zs : List ℕ). x ∷ zs) (take_again size xs ys)

pub take_full : (size : ℕ) (xs ys : List ℕ) → size ≤ length xs → take size (xs ++ ys) ≡ take size xs
take_full size xs ys full = take-append-le size xs ys full

vars_from_none : (k x : ℕ) → vars_from k x 0 ≡ []
unfolding vars_from
vars_from_none zero x = refl
vars_from_none (suc k) x = vars_from_none k (suc x)

pub vars_of_none : (g : ℕ) → vars_of g 0 ≡ []
unfolding vars_of
vars_of_none g = vars_from_none 32 (suc (32 * g))

-- one bit more of a block that takes at most so many
pub bit_next : (size g mask k b var : ℕ) (start now next : List ℕ) → bit_at mask k ≡ b → var ≡ 32 * g + k + 1
    → now ≡ take size (start ++ vars_from k (suc (32 * g)) mask) → next ≡ take size (now ++ var_if b var)
    → next ≡ take size (start ++ vars_from (k + 1) (suc (32 * g)) mask)
bit_next size g mask k b var start now next bit var_is before step =
    let place : var ≡ suc (32 * g) + k = omega arith in
    let more : suc k ≡ k + 1 = omega arith in
    step
    ∙ ap (λ (xs : List ℕ). take size (xs ++ var_if b var)) before
    ∙ take_again size (start ++ vars_from k (suc (32 * g)) mask) (var_if b var)
    ∙ ap (take size) (append_assoc start (vars_from k (suc (32 * g)) mask) (var_if b var))
    ∙ ap (λ (y : ℕ). take size (start ++ (vars_from k (suc (32 * g)) mask ++ var_if b y))) place
    ∙ ap (λ (c : ℕ). take size (start ++ (vars_from k (suc (32 * g)) mask ++ var_if c (suc (32 * g) + k)))) (sym bit)
    ∙ ap (λ (xs : List ℕ). take size (start ++ xs)) (sym (vars_from_more k (suc (32 * g)) mask))
    ∙ ap (λ (n : ℕ). take size (start ++ vars_from n (suc (32 * g)) mask)) more

-- a run of numbers, cut in two
range_split : (a n m : ℕ) → range_with_len a (n + m) ≡ range_with_len a n ++ range_with_len (a + n) m
range_split a zero m =
    let none : zero + m ≡ m = omega arith in
    let here : a ≡ a + zero = omega arith in
    ap (range_with_len a) none ∙ ap (λ (b : ℕ). range_with_len b m) here
range_split a (suc n) m =
    let more : suc n + m ≡ suc (n + m) = omega arith in
    let here : a + 1 + n ≡ a + suc n = omega arith in
    ap (range_with_len a) more
    ∙ ap (λ (xs : List ℕ). a ∷ xs) (range_split (a + 1) n m)
    ∙ ap (λ (b : ℕ). a ∷ (range_with_len (a + 1) n ++ range_with_len b m)) here

range_more : (a n : ℕ) → range_with_len a (n + 1) ≡ range_with_len a n ++ (a + n) ∷ []
range_more a n = range_split a n 1

-- one group more
groups_more : (ws : List ℕ) (first n : ℕ) → open_in_groups ws first (n + 1) ≡ open_in_groups ws first n ++ open_in ws (first + n)
groups_more ws first n =
    ap (flat_map (open_in ws)) (range_more first n) ∙ flat_map-append (open_in ws) (range_with_len first n) ((first + n) ∷ [])
    ∙ ap (λ (xs : List ℕ). open_in_groups ws first n ++ xs) (append-nil (open_in ws (first + n)))

pub group_next : (size first group mask : ℕ) (ws start now next : List ℕ) → first ≤ group → mask ≡ open_mask (slice_index ws group)
    → now ≡ take size (start ++ open_in_groups ws first (group - first)) → next ≡ take size (now ++ vars_of group mask)
    → next ≡ take size (start ++ open_in_groups ws first (group + 1 - first))
group_next size first group mask ws start now next low mask_is before step =
    let place : first + (group - first) ≡ group = omega arith in
    let more : group - first + 1 ≡ group + 1 - first = omega arith in
    step
    ∙ ap (λ (xs : List ℕ). take size (xs ++ vars_of group mask)) before
    ∙ take_again size (start ++ open_in_groups ws first (group - first)) (vars_of group mask)
    ∙ ap (take size) (append_assoc start (open_in_groups ws first (group - first)) (vars_of group mask))
    ∙ ap (λ (m : ℕ). take size (start ++ (open_in_groups ws first (group - first) ++ vars_of group m))) mask_is
    ∙ ap (λ (g : ℕ). take size (start ++ (open_in_groups ws first (group - first) ++ open_in ws g))) (sym place)
    ∙ ap (λ (xs : List ℕ). take size (start ++ xs)) (sym (groups_more ws first (group - first)))
    ∙ ap (λ (n : ℕ). take size (start ++ open_in_groups ws first n)) more

-- where a block is full, the groups that are left add nothing
groups_split : (ws : List ℕ) (first n more : ℕ) → open_in_groups ws first (n + more) ≡ open_in_groups ws first n ++ open_in_groups ws (first + n) more
groups_split ws first n more =
    ap (flat_map (open_in ws)) (range_split first n more) ∙ flat_map-append (open_in ws) (range_with_len first n) (range_with_len (first + n) more)

pub full_block : (size first group end : ℕ) (ws start now : List ℕ) → first ≤ group → group ≤ end → size ≤ length now
    → now ≡ take size (start ++ open_in_groups ws first (group - first))
    → now ≡ take size (start ++ open_in_groups ws first (end - first))
full_block size first group end ws start now low high full before =
    let parts : group - first + (end - group) ≡ end - first = omega arith in
    let shown : List ℕ = start ++ open_in_groups ws first (group - first) in
    let long : size ≤ length (start ++ open_in_groups ws first (group - first)) =
    omega (arith, ap length before, length-take size (start ++ open_in_groups ws first (group - first))) in
    before
    ∙ sym (take_full size (start ++ open_in_groups ws first (group - first)) (open_in_groups ws (first + (group - first)) (end - group)) long)
    ∙ ap (take size) (append_assoc start (open_in_groups ws first (group - first)) (open_in_groups ws (first + (group - first)) (end - group)))
    ∙ ap (λ (xs : List ℕ). take size (start ++ xs)) (sym (groups_split ws first (group - first) (end - group)))
    ∙ ap (λ (n : ℕ). take size (start ++ open_in_groups ws first n)) parts

-- whether a variable is open, by the word of its group
pub open_in_word : (ws : List ℕ) (c w m : ℕ) → w ≡ slice_index ws (c / 32) → w < 18446744073709551616 → m ≡ open_mask w
    → nat_eq (bit_and (m / 2 ^ (c % 32)) 1) 1 ≡ is_open ws (suc c)
open_in_word ws c w m word range mask =
    let bit : bit_and (m / 2 ^ (c % 32)) 1 ≡ bit_at m (c % 32) = shr_and_one m (c % 32) in
    let open_is : bit_at m (c % 32) ≡ open_at ws (suc c) =
    ap (λ (n : ℕ). bit_at n (c % 32)) mask ∙ open_bit w (c % 32) range (omega arith) ∙ ap (λ (u : ℕ). bit_at u (c % 32) - bit_at u (32 + c % 32)) word in
    ap (λ (n : ℕ). nat_eq n 1) (bit ∙ open_is)

-- a list that fits is its own front
pub take_none : (size : ℕ) (xs : List ℕ) → length xs ≤ size → xs ≡ take size (xs ++ [])
take_none size xs fits = sym (ap (take size) (append-nil xs) ∙ take_all size xs fits)

pub group_none : (size group mask : ℕ) (now : List ℕ) → mask ≡ 0 → length now ≤ size → now ≡ take size (now ++ vars_of group mask)
group_none size group mask now none fits =
    take_none size now fits ∙ ap (λ (xs : List ℕ). take size (now ++ xs)) (sym (ap (vars_of group) none ∙ vars_of_none group))

-- one variable more, or none
pub push_one : (size bit var : ℕ) (now : List ℕ) → bit ≡ 1 → length now < size → now ++ var ∷ [] ≡ take size (now ++ var_if bit var)
push_one size bit var now one fits =
    sym (ap (λ (b : ℕ). take size (now ++ var_if b var)) one ∙ take_all size (now ++ var ∷ []) (omega (arith, length-append now (var ∷ []))))

pub push_none : (size bit var : ℕ) (now : List ℕ) → bit < 2 → bit ≢ 1 → length now ≤ size → now ≡ take size (now ++ var_if bit var)
push_none size bit var now small other fits =
    let none : bit ≡ 0 = omega arith in
    take_none size now fits ∙ ap (λ (b : ℕ). take size (now ++ var_if b var)) (sym none)

pub push_full : (size bit var : ℕ) (now : List ℕ) → length now ≡ size → now ≡ take size (now ++ var_if bit var)
push_full size bit var now full =
    sym (take_full size now (var_if bit var) (omega arith) ∙ take_all size now (omega arith))

pub open_var : (ws : List ℕ) (x m : ℕ) → 0 < x → slice_index ws ((x - 1) / 32) < 18446744073709551616 → m ≡ open_mask (slice_index ws ((x - 1) / 32))
    → nat_eq (bit_and (m / 2 ^ ((x - 1) % 32)) 1) 1 ≡ is_open ws x
open_var ws x m low range mask =
    let next : suc (x - 1) ≡ x = omega arith in
    open_in_word ws (x - 1) (slice_index ws ((x - 1) / 32)) m refl range mask ∙ ap (is_open ws) next
