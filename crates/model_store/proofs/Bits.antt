-- A word that is filled from its lowest bit on.
use Rattle.std.proofs.Common.{◌≡◌, ℕ, ◌+◌, ◌-◌, ◌*◌, ◌%◌, ◌^◌, ◌<◌, ◌≤◌, ◌≢◌, ◌==◌, true, false, length, get_or, min, bit_or, w64, sym, ap, ◌∙◌, subst, ⊎_elim, arith}
use Rattle.std.specs.Int.{bit_at}
use Rattle.std.proofs.lemmas.Bool.{cases_eq}
use Rattle.std.proofs.lemmas.Nat.Bits.{bit_at-zero, bit_at_set_same, bit_at_set_other}
use Rattle.cnf_core.specs.Literals.{Assignment}
use Rattle.model_store.specs.Steps.Packed.{HasValues}

-- the lowest bits are values of the assignment, and the other bits are 0
pub record HasBits (a : Assignment) (first count word : ℕ) : Type 0 where
  pub below : (i : ℕ) → i < count → (bit_at word i == 1) ≡ get_or a (first + i) false
  pub above : (i : ℕ) → count ≤ i → bit_at word i ≡ 0

pub bits-none : (a : Assignment) (first : ℕ) → HasBits a first 0 0
bits-none a first = record {
  below = λ i under. absurd (omega arith);
  above = λ i over. bit_at-zero i;
}

-- one bit more
pub bits-set : (a : Assignment) (first k word : ℕ) → HasBits a first k word → k < 64
    → get_or a (first + k) false ≡ true → HasBits a first (k + 1) (bit_or word (1 * 2 ^ k % 2 ^ 64))
bits-set a first k word so_far within on = record {
  below = λ i under. ⊎_elim
      (λ (is : i ≡ k).
      subst (λ j. (bit_at (bit_or word (1 * 2 ^ k % 2 ^ 64)) j == 1) ≡ get_or a (first + j) false) (sym is)
      (ap (λ (b : ℕ). b == 1) (bit_at_set_same w64 word k within) ∙ sym on))
      (λ (other : i ≢ k).
      let before : i < k = omega arith in
      ap (λ (b : ℕ). b == 1) (bit_at_set_other w64 word k within i other) ∙ so_far.below i before)
      (cases_eq i k);
  above = λ i over.
      let other : i ≢ k = omega arith in
      let past : k ≤ i = omega arith in
      bit_at_set_other w64 word k within i other ∙ so_far.above i past;
}

pub bits-clear : (a : Assignment) (first k word : ℕ) → HasBits a first k word
    → get_or a (first + k) false ≡ false → HasBits a first (k + 1) word
bits-clear a first k word so_far off = record {
  below = λ i under. ⊎_elim
      (λ (is : i ≡ k).
      subst (λ j. (bit_at word j == 1) ≡ get_or a (first + j) false) (sym is)
      (ap (λ (b : ℕ). b == 1) (so_far.above k (omega arith)) ∙ sym off))
      (λ (other : i ≢ k).
      let before : i < k = omega arith in
      so_far.below i before)
      (cases_eq i k);
  above = λ i over.
      let past : k ≤ i = omega arith in
      so_far.above i past;
}

-- all the bits that there are values for
pub values_of_bits : (a : Assignment) (j first count word : ℕ) → first ≡ 64 * j
    → count ≡ min (length a - first) 64 → HasBits a first count word → HasValues a j word
values_of_bits a j first count word is all has k below within =
    let under : k < count = omega arith in
    has.below k under ∙ ap (λ (i : ℕ). get_or a (i + k) false) is
