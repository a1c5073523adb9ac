-- What a stored model leaves of a group's open candidates.
use Rattle.std.proofs.Common.{◌≡◌, ◌≢◌, ℕ, ◌+◌, ◌-◌, ◌*◌, ◌/◌, ◌%◌, ◌<◌, ◌≤◌, ◌⊎◌, true, false, not, List, length, sym, ap, ◌∙◌, subst, ⊎_elim, inl, inr, bit_and, w32, arith}
use Rattle.std.specs.Prelude.{slice_index, slice_index_or}
use Rattle.std.specs.Int.{bit_at}
use Rattle.std.proofs.lemmas.Bool.{cases_eq}
use Rattle.std.proofs.lemmas.List.{get_or_default}
use Rattle.std.proofs.lemmas.Nat.Bits.{bit_at-lt, bit_at_and, bit_at_not}
use Rattle.cnf_core.specs.Literals.{Assignment, value_of}
use Rattle.cnf_core.specs.Formulas.{Cnf, IsModel}
use Rattle.cnf_core.proofs.Truth.{value_of-with_value}
use Rattle.board_core.specs.Subjects.{About, groups, candidate}
use Rattle.board_core.specs.Words.{open_at}
use Rattle.board_core.specs.Rules.{AreEarlier, AreWords}
use Rattle.board_core.proofs.Ends.{candidate_within, candidate-lt}
use Rattle.core_chunks.specs.Chunks.{open_mask}
use Rattle.core_chunks.proofs.Parts.{open_bit}
use Rattle.model_check.specs.Flips.{flipped}
use Rattle.model_store.specs.Stores.{Store}
use Rattle.worker_loop.proofs.Words.{open_candidate}
use Rattle.worker_loop.specs.Evidence.{IsWitness}
use Rattle.worker_loop.specs.Steps.Dropping.{var_at, witness_of, IsStoredAt}

-- a group's word as it is read
pub word_at : (ws : List ℕ) (g w : ℕ) → w ≡ slice_index_or ws g w → g < length ws → slice_index ws g ≡ w
word_at ws g w is within = sym (is ∙ get_or_default ws g w 0 within)

-- the open bits are the open variables
pub open_bit_at : (ws : List ℕ) (g w m i : ℕ) → slice_index ws g ≡ w → w < 18446744073709551616 → m ≡ open_mask w → i < 32
    → bit_at m i ≡ open_at ws (var_at g i)
open_bit_at ws g w m i word range mask within =
    let group : (32 * g + i) / 32 ≡ g = omega arith in
    let place : (32 * g + i) % 32 ≡ i = omega arith in
    ap (λ (n : ℕ). bit_at n i) mask
    ∙ open_bit w i range within
    ∙ ap (λ (u : ℕ). bit_at u i - bit_at u (32 + i)) (sym word)
    ∙ ap (λ (h : ℕ). bit_at (slice_index ws h) i - bit_at (slice_index ws h) (32 + i)) (sym group)
    ∙ ap (λ (j : ℕ). bit_at (slice_index ws ((32 * g + i) / 32)) j - bit_at (slice_index ws ((32 * g + i) / 32)) (32 + j)) (sym place)

-- what is open is a candidate
pub open_bit_candidate : (a : About) (ws view_ws : List ℕ) (g w m i : ℕ) → AreWords a view_ws → ws ≡ view_ws → w ≡ slice_index_or ws g w
    → w < 18446744073709551616 → m ≡ open_mask w → g < groups a.formula.vars → i < 32 → bit_at m i ≡ 1
    → candidate a.formula (var_at g i) ≡ 1
open_bit_candidate a ws view_ws g w m i words copied read range mask low within on =
    let here : AreWords a ws = subst (λ (us : List ℕ). AreWords a us) (sym copied) words in
    let size = here.size in
    let one : open_at ws (var_at g i) ≡ 1 = sym (open_bit_at ws g w m i (word_at ws g w read (omega arith)) range mask within) ∙ on in
    omega (arith, one, open_candidate a ws here (var_at g i), candidate-lt a.formula (var_at g i))

-- what is closed stays so
pub stays_closed : (n g i : ℕ) (was now : List ℕ) → AreEarlier (groups n) was now → g < groups n → i < 32 → open_at was (var_at g i) ≡ 0
    → open_at now (var_at g i) ≡ 0
stays_closed n g i was now later low within closed =
    let group : (32 * g + i) / 32 ≡ g = omega arith in
    let place : (32 * g + i) % 32 ≡ i = omega arith in
    let both : (bit_at (slice_index now ((32 * g + i) / 32)) ((32 * g + i) % 32) ≤ bit_at (slice_index was ((32 * g + i) / 32))
    ((32 * g + i) % 32))
    × (bit_at (slice_index was ((32 * g + i) / 32)) (32 + (32 * g + i) % 32) ≤ bit_at (slice_index now ((32 * g + i) / 32))
    (32 + (32 * g + i) % 32)) =
    later ((32 * g + i) / 32) (omega arith) ((32 * g + i) % 32) (omega arith) in
    omega (arith, both.0, both.1, closed)

-- a candidate is against, or free, or kept
pub by_bits : (C K : Type 0) (against free : ℕ) → against < 2 → free < 2 → (against ≡ 1 → C) → (against ≡ 0 → free ≡ 1 → C)
    → (against ≡ 0 → free ≡ 0 → K) → C ⊎ K
by_bits C K against free small small_too first second third =
    ⊎_elim
    (λ (one : against ≡ 1). inl (first one))
    (λ (other : against ≢ 1).
    let none : against ≡ 0 = omega arith in
    ⊎_elim (λ (one : free ≡ 1). inl (second none one)) (λ (apart : free ≢ 1). inr (third none (omega arith))) (cases_eq free 1))
    (cases_eq against 1)

-- the kept bits are those that are open and not against
pub kept_open : (open_ones against i : ℕ) → against < 4294967296 → i < 32 → bit_at (bit_and open_ones (4294967295 - against)) i ≡ 1
    → (bit_at open_ones i ≡ 1) × (bit_at against i ≡ 0)
kept_open open_ones against i small within on =
    let rest : bit_at (4294967295 - against) i ≡ 1 - bit_at against i = bit_at_not w32 against i small within in
    let both = bit_at_and open_ones (4294967295 - against) i in (
      omega (arith, both, rest, bit_at-lt open_ones i, bit_at-lt against i),
      omega
          (arith, both, rest, bit_at-lt open_ones i, bit_at-lt against i),
    )

pub kept_on : (open_ones against i : ℕ) → against < 4294967296 → i < 32 → bit_at open_ones i ≡ 1 → bit_at against i ≡ 0
    → bit_at (bit_and open_ones (4294967295 - against)) i ≡ 1
kept_on open_ones against i small within on off =
    let rest : bit_at (4294967295 - against) i ≡ 1 - bit_at against i = bit_at_not w32 against i small within in
    omega (arith, bit_at_and open_ones (4294967295 - against) i, rest)

-- a stored model that gives the variable the other value is a witness
pub witness_by_value : (a : About) (s : Store) (place : ℕ) (m : Assignment) (x : ℕ) → s.formula ≡ a.formula → IsStoredAt s place m
    → IsModel a.formula m → candidate a.formula x ≡ 1 → value_of m x ≡ not (value_of a.phases x)
    → IsWitness a s (witness_of (record { model = place; flip = false }) x)
witness_by_value a s place m x formula stored model is opposite =
    let some : 1 ≤ candidate a.formula x = omega arith in
    let within = candidate_within a.formula x some in
    let vars : s.formula.vars ≡ a.formula.vars = ap (λ (F : Cnf). F.vars) formula in record {
      range = record { model = stored.within; low = within.low; high = omega (arith, within.high, vars) };
      against = record {
        is_model = subst (λ (b : Assignment). IsModel a.formula b) (sym stored.is) model;
        opposite = subst (λ (b : Assignment). value_of b x ≡ not (value_of a.phases x)) (sym stored.is) opposite;
      };
    }

-- so is the flip of one that keeps its value
pub witness_by_flip : (a : About) (s : Store) (place : ℕ) (m : Assignment) (x : ℕ) → s.formula ≡ a.formula → IsStoredAt s place m
    → IsModel a.formula m → IsModel a.formula (flipped m x) → candidate a.formula x ≡ 1 → value_of m x ≡ value_of a.phases x
    → IsWitness a s (witness_of (record { model = place; flip = true }) x)
witness_by_flip a s place m x formula stored model flip is same =
    let some : 1 ≤ candidate a.formula x = omega arith in
    let within = candidate_within a.formula x some in
    let vars : s.formula.vars ≡ a.formula.vars = ap (λ (F : Cnf). F.vars) formula in
    let high : x ≤ a.formula.vars = within.high in
    let low : 0 < x = within.low in record {
      range = record { model = stored.within; low = within.low; high = omega (arith, within.high, vars) };
      against = record {
        is_model = subst (λ (b : Assignment). IsModel a.formula (flipped b x)) (sym stored.is) flip;
        opposite = subst (λ (b : Assignment). value_of (flipped b x) x ≡ not (value_of a.phases x)) (sym stored.is)
            (value_of-with_value m x (not (value_of m x)) low (omega (arith, model.values)) ∙ ap not same);
      };
    }
