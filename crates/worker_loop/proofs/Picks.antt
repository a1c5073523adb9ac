-- Masks whose bits are set one after the other, from the lowest on.
use Rattle.std.proofs.Common.{◌≡◌, ◌≢◌, ℕ, ◌+◌, ◌*◌, ◌%◌, ◌^◌, ◌<◌, ◌≤◌, ◌↔◌, Bool, true, false, not, IsTrue, nat_eq, bit_or, w32, refl, sym, ◌∙◌, subst, ⊎_elim, arith}
use Rattle.std.specs.Int.{bit_at}
use Rattle.std.proofs.lemmas.Bool.{cases_eq, eqb-true, eq-eqb}
use Rattle.std.proofs.lemmas.Nat.Bits.{bit_at-zero, bit_at_set_same, bit_at_set_other}
use Rattle.cnf_core.specs.Literals.{Assignment, value_of}
use Rattle.cnf_core.specs.Formulas.{Cnf, IsModel}
use Rattle.board_core.specs.Subjects.{About, candidate}
use Rattle.board_core.proofs.Ends.{candidate_within}
use Rattle.model_check.specs.Flips.{flipped}
use Rattle.worker_loop.specs.Steps.Dropping.{var_at}

-- P holds where a bit is on, and Q where one below k is off
pub record PicksBelow (P Q : ℕ → Type 0) (k mask : ℕ) : Type 0 where
  pub on : (i : ℕ) → i < 32 → bit_at mask i ≡ 1 → P i
  pub off : (i : ℕ) → i < k → bit_at mask i ≡ 0 → Q i
  pub above : (i : ℕ) → k ≤ i → bit_at mask i ≡ 0

pub picks_none : (P Q : ℕ → Type 0) → PicksBelow P Q 0 0
picks_none P Q = record {
  on = λ i within is. absurd (omega (arith, bit_at-zero i));
  off = λ i under is. absurd (omega arith);
  above = λ i over. bit_at-zero i;
}

pub picks_set : (P Q : ℕ → Type 0) (k mask new : ℕ) → k < 32 → PicksBelow P Q k mask → new ≡ bit_or mask (1 * 2 ^ k % 2 ^ 32) → P k
    → PicksBelow P Q (k + 1) new
picks_set P Q k mask new within so_far is here =
    subst (λ (m : ℕ). PicksBelow P Q (k + 1) m) (sym is)
    (record {
      on = λ i low bit. ⊎_elim
          (λ (same : i ≡ k). subst P (sym same) here)
          (λ (other : i ≢ k). so_far.on i low (sym (bit_at_set_other w32 mask k within i other) ∙ bit))
          (cases_eq i k);
      off = λ i under bit. ⊎_elim
          (λ (same : i ≡ k).
          let one : bit_at (bit_or mask (1 * 2 ^ k % 2 ^ 32)) i ≡ 1 =
          subst (λ (j : ℕ). bit_at (bit_or mask (1 * 2 ^ k % 2 ^ 32)) j ≡ 1) (sym same) (bit_at_set_same w32 mask k within) in
          absurd (omega arith))
          (λ (other : i ≢ k). let below : i < k = omega arith in so_far.off i below
          (sym (bit_at_set_other w32 mask k within i other) ∙ bit))
          (cases_eq i k);
      above = λ i over.
          let other : i ≢ k = omega arith in
          let past : k ≤ i = omega arith in
          bit_at_set_other w32 mask k within i other ∙ so_far.above i past;
    })

pub picks_clear : (P Q : ℕ → Type 0) (k mask new : ℕ) → PicksBelow P Q k mask → new ≡ mask → Q k → PicksBelow P Q (k + 1) new
picks_clear P Q k mask new so_far is here =
    subst (λ (m : ℕ). PicksBelow P Q (k + 1) m) (sym is)
    (record {
      on = so_far.on;
      off = λ i under bit. ⊎_elim
          (λ (same : i ≡ k). subst Q (sym same) here)
          (λ (other : i ≢ k). let below : i < k = omega arith in so_far.off i below bit)
          (cases_eq i k);
      above = λ i over. let past : k ≤ i = omega arith in so_far.above i past;
    })

-- what a test of a bit answered
pub bit_on : (mask i : ℕ) (r : Bool) → r ≡ nat_eq (bit_at mask i) 1 → r ≡ true → bit_at mask i ≡ 1
bit_on mask i r is on = eqb-true (bit_at mask i) 1 (sym is ∙ on)

pub bit_off : (mask i : ℕ) (r : Bool) → r ≡ nat_eq (bit_at mask i) 1 → r ≡ false → bit_at mask i ≡ 1 → {X : Type 0} → X
bit_off mask i r is off on {X} =
    let e : true ≡ false = sym (eq-eqb (bit_at mask i) 1 on) ∙ sym is ∙ off in
    cc

-- the variable of a candidate's bit fits
pub var_within : (F : Cnf) (g i : ℕ) → candidate F (var_at g i) ≡ 1 → 32 * g + i + 1 ≤ F.vars
var_within F g i is =
    let some : 1 ≤ candidate F (var_at g i) = omega arith in
    let high = (candidate_within F (var_at g i) some).high in
    omega arith

pub var_of_bit : (g i : ℕ) → 32 * g + i + 1 ≡ var_at g i
var_of_bit g i = omega arith

other_value : (a b : Bool) → (a ≡ not b → ⊥) → a ≡ b
other_value true true apart = refl
other_value true false apart = absurd (apart refl)
other_value false true apart = absurd (apart refl)
other_value false false apart = refl

is_false : (r : Bool) → r ≡ false → IsTrue r → ⊥
is_false r off on = let e : true ≡ false = sym on ∙ off in cc

-- the bits so far to whose variables the model gives the other value
abbrev pub OnAgainst : About → Assignment → ℕ → ℕ → ℕ → Type 0
OnAgainst a m g among i = (bit_at among i ≡ 1) × (value_of m (var_at g i) ≡ not (value_of a.phases (var_at g i)))

abbrev pub OffAgainst : About → Assignment → ℕ → ℕ → ℕ → Type 0
OffAgainst a m g among i = bit_at among i ≡ 1 → value_of m (var_at g i) ≡ value_of a.phases (var_at g i)

abbrev pub AgainstBelow : About → Assignment → ℕ → ℕ → ℕ → ℕ → Type 0
AgainstBelow a m g among k mask = PicksBelow (OnAgainst a m g among) (OffAgainst a m g among) k mask

pub against_on : (a : About) (m : Assignment) (g among k mask new : ℕ) (h r : Bool) → k < 32 → AgainstBelow a m g among k mask
    → h ≡ nat_eq (bit_at among k) 1 → h ≡ true
    → (IsTrue r ↔ (value_of m (32 * g + k + 1) ≡ not (value_of a.phases (32 * g + k + 1)))) → r ≡ true
    → new ≡ bit_or mask (1 * 2 ^ k % 2 ^ 32) → AgainstBelow a m g among (k + 1) new
against_on a m g among k mask new h r within so_far bit on says is step =
    picks_set (OnAgainst a m g among) (OffAgainst a m g among) k mask new within so_far step (
      bit_on among k h bit on,
      subst (λ (x : ℕ). value_of m x ≡ not (value_of a.phases x)) (var_of_bit g k) (says.0 is),
    )

pub against_off : (a : About) (m : Assignment) (g among k mask new : ℕ) (r : Bool) → AgainstBelow a m g among k mask
    → (IsTrue r ↔ (value_of m (32 * g + k + 1) ≡ not (value_of a.phases (32 * g + k + 1)))) → r ≡ false
    → new ≡ mask → AgainstBelow a m g among (k + 1) new
against_off a m g among k mask new r so_far says off step =
    picks_clear (OnAgainst a m g among) (OffAgainst a m g among) k mask new so_far step
    (λ on. subst (λ (x : ℕ). value_of m x ≡ value_of a.phases x) (var_of_bit g k)
    (other_value (value_of m (32 * g + k + 1)) (value_of a.phases (32 * g + k + 1)) (λ e. is_false r off (says.1 e))))

-- a bit that isn't among them is left off
pub skipped : (P : ℕ → Type 0) (T : ℕ → Type 0) (among k mask new : ℕ) (h : Bool)
    → PicksBelow P (λ i. bit_at among i ≡ 1 → T i) k mask → h ≡ nat_eq (bit_at among k) 1 → h ≡ false → new ≡ mask
    → PicksBelow P (λ i. bit_at among i ≡ 1 → T i) (k + 1) new
skipped P T among k mask new h so_far bit off step =
    picks_clear P (λ i. bit_at among i ≡ 1 → T i) k mask new so_far step (λ on. bit_off among k h bit off on)

-- the bits so far whose flips are models
abbrev pub OnFree : Cnf → Assignment → ℕ → ℕ → ℕ → Type 0
OnFree F m g kept i = (bit_at kept i ≡ 1) × IsModel F (flipped m (var_at g i))

abbrev pub OffFree : Cnf → Assignment → ℕ → ℕ → ℕ → Type 0
OffFree F m g kept i = bit_at kept i ≡ 1 → IsModel F (flipped m (var_at g i)) → ⊥

abbrev pub FreeBelow : Cnf → Assignment → ℕ → ℕ → ℕ → ℕ → Type 0
FreeBelow F m g kept k mask = PicksBelow (OnFree F m g kept) (OffFree F m g kept) k mask

pub free_on : (F : Cnf) (m : Assignment) (g kept k mask new : ℕ) (h r : Bool) → k < 32 → FreeBelow F m g kept k mask
    → h ≡ nat_eq (bit_at kept k) 1 → h ≡ true
    → (IsTrue r ↔ IsModel F (flipped m (32 * g + k + 1))) → r ≡ true
    → new ≡ bit_or mask (1 * 2 ^ k % 2 ^ 32) → FreeBelow F m g kept (k + 1) new
free_on F m g kept k mask new h r within so_far bit on says is step =
    picks_set (OnFree F m g kept) (OffFree F m g kept) k mask new within so_far step (
      bit_on kept k h bit on,
      subst (λ (x : ℕ). IsModel F (flipped m x)) (var_of_bit g k) (says.0 is),
    )

pub free_off : (F : Cnf) (m : Assignment) (g kept k mask new : ℕ) (r : Bool) → FreeBelow F m g kept k mask
    → (IsTrue r ↔ IsModel F (flipped m (32 * g + k + 1))) → r ≡ false
    → new ≡ mask → FreeBelow F m g kept (k + 1) new
free_off F m g kept k mask new r so_far says off step =
    picks_clear (OnFree F m g kept) (OffFree F m g kept) k mask new so_far step
    (λ on model. is_false r off (says.1 (subst (λ (x : ℕ). IsModel F (flipped m x)) (sym (var_of_bit g k)) model)))
