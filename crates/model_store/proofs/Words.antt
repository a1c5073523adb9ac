-- Lists that are made of a function of the index, and the values of a block.
use Rattle.std.proofs.Common.{◌≡◌, ℕ, ◌+◌, ◌-◌, ◌*◌, ◌/◌, ◌%◌, ◌<◌, ◌≤◌, ◌==◌, false, List, ◌++◌, length, get_or, map, take, drop, refl, sym, ap, ◌∙◌, subst, arith}
use Rattle.std.specs.Int.{bit_at}
use Rattle.std.specs.List.{range_with_len}
use Rattle.std.proofs.lemmas.List.{get_or-drop, get_or_append_left}
use Rattle.std.proofs.lemmas.List.FromFn.{length-map-range_with_len, get_or-map-range_with_len, fill_by_all}
use Rattle.cnf_core.specs.Literals.{Assignment, value_of}
use Rattle.model_store.specs.Steps.Packed.{words_for, bit_value, unpacked, HasValues, AppendsValues}

-- functions that agree on the indexes make the same list
pub map-range_same : {X : Type 0} (f g : ℕ → X) (n : ℕ) (d : X) → ((k : ℕ) → k < n → f k ≡ g k)
    → map f (range_with_len 0 n) ≡ map g (range_with_len 0 n)
map-range_same f g n d same =
    fill_by_all g (map f (range_with_len 0 n)) n d (length-map-range_with_len f 0 n)
    (λ k below. get_or-map-range_with_len f 0 n k k d below (omega arith) ∙ same k below)

pub length-unpacked : (words : List ℕ) (n : ℕ) → length (unpacked words n) ≡ n
unfolding unpacked
length-unpacked words n = length-map-range_with_len (bit_value words) 0 n

-- the value of a variable is its bit
pub value_of-unpacked : (words : List ℕ) (n v : ℕ) → 0 < v → v ≤ n
    → value_of (unpacked words n) v ≡ bit_value words (v - 1)
unfolding unpacked
value_of-unpacked words n v low high =
    get_or-map-range_with_len (bit_value words) 0 n (v - 1) (v - 1) false (omega arith) (omega arith)

-- words behind those of the values change nothing
pub unpacked-append : (words more : List ℕ) (n : ℕ) → n ≤ 64 * length words
    → unpacked (words ++ more) n ≡ unpacked words n
unfolding unpacked
unpacked-append words more n room =
    map-range_same (bit_value (words ++ more)) (bit_value words) n false
    (λ k below.
    let within : k / 64 < length words = omega arith in
    ap (λ (w : ℕ). bit_at w (k % 64) == 1) (get_or_append_left words more 0 (k / 64) within))

-- the bit of a block's part
pub bit_value-drop : (words : List ℕ) (m k : ℕ)
    → bit_value (drop m words) k ≡ (bit_at (get_or words (m + k / 64) 0) (k % 64) == 1)
bit_value-drop words m k = ap (λ (w : ℕ). bit_at w (k % 64) == 1) (get_or-drop m words (k / 64) 0)

-- words that have the values, each its own, are the packed values
pub unpacked_by : (a : Assignment) (words : List ℕ)
    → ((j : ℕ) → 64 * j < length a → HasValues a j (get_or words j 0))
    → unpacked words (length a) ≡ a
unfolding unpacked
unpacked_by a words each =
    sym (fill_by_all (bit_value words) a (length a) false refl
    (λ k below.
    let first : 64 * (k / 64) < length a = omega arith in
    let place : 64 * (k / 64) + k % 64 ≡ k = omega arith in
    let has : (bit_at (get_or words (k / 64) 0) (k % 64) == 1) ≡ get_or a (64 * (k / 64) + k % 64) false =
    each (k / 64) first (k % 64) (omega arith) (omega arith) in
    sym (has ∙ ap (λ (i : ℕ). get_or a i false) place)))

-- a block that keeps its front and has the values' words behind it
pub appended_by : (old new : List ℕ) (a : Assignment) → length new ≡ length old + words_for (length a)
    → take (length old) new ≡ old
    → ((k : ℕ) → k < words_for (length a) → HasValues a k (get_or new (length old + k) 0))
    → AppendsValues old new a
appended_by old new a count front written = record {
  front = front;
  count = count;
  values = unpacked_by a (drop (length old) new)
      (λ j first.
      let within : j < words_for (length a) = omega arith in
      subst (HasValues a j) (sym (get_or-drop (length old) new j 0)) (written j within));
}
