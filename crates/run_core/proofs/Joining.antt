-- What a join leaves of what was seen open and of what models say, and what nothing open means.
use Rattle.std.proofs.Common.{◌≡◌, ℕ, zero, suc, ◌+◌, ◌-◌, ◌*◌, ◌/◌, ◌%◌, ◌<◌, ◌≤◌, min, max, List, [], ◌∷◌, length, refl}
use Rattle.std.proofs.Common.{sym, ap, ◌∙◌, subst, ⊎_elim, arith}
use Rattle.std.specs.Prelude.{◌≢◌, if◌then◌else◌, slice_index}
use Rattle.std.specs.Int.{bit_at}
use Rattle.std.proofs.Math.ListN.{get_or-append}
use Rattle.std.proofs.Math.Seq.{get_or-append_right}
use Rattle.std.proofs.lemmas.List.{get_or_past, length-append}
use Rattle.std.proofs.lemmas.Bool.{cases_eq, cases_lt}
use Rattle.std.proofs.lemmas.Nat.Bits.{bit_at-lt, bit_at-zero}
use Rattle.cnf_core.specs.Literals.{Assignment, value_of}
use Rattle.cnf_core.specs.Formulas.{Cnf, IsAgainst}
use Rattle.model_check.specs.Flips.{flipped}
use Rattle.model_store.specs.Stores.{Store, with_models, model_at}
use Rattle.model_store.specs.declared.witness.Witness.{Witness}
use Rattle.board_core.specs.Subjects.{About, groups, candidate}
use Rattle.board_core.specs.Words.{alive, fixed, open_at, met, met_words, times}
use Rattle.board_core.specs.Boards.{joined, without_number}
use Rattle.board_core.specs.Laws.{NoneOpen}
use Rattle.board_core.specs.Rules.{AreWords}
use Rattle.board_core.specs.declared.view.View.{View}
use Rattle.board_core.proofs.Bits.{met_alive, met_fixed}
use Rattle.board_core.proofs.Ends.{candidate_past}
use Rattle.board_core.proofs.Seats.{times_gone, times_kept}
use Rattle.core_chunks.specs.Chunks.{open_count}
use Rattle.worker_loop.specs.Evidence.{IsWitness, IsKeeping, IsSettled}
use Rattle.run_core.specs.Steps.Crews.{IsOut}
use Rattle.run_core.specs.Steps.Gathers.{moved}

-- What was seen.
met_words_size : (xs ys : List ℕ) → length xs ≡ length ys → length (met_words xs ys) ≡ length xs
met_words_size [] ys same = refl
met_words_size (x ∷ xs) [] same = absurd (omega arith)
met_words_size (x ∷ xs) (y ∷ ys) same = ap suc (met_words_size xs ys (omega arith))

met_words_at : (xs ys : List ℕ) (g : ℕ) → g < length xs → length xs ≡ length ys
    → slice_index (met_words xs ys) g ≡ met (slice_index xs g) (slice_index ys g)
met_words_at [] ys g low same = absurd (omega arith)
met_words_at (x ∷ xs) [] g low same = absurd (omega arith)
met_words_at (x ∷ xs) (y ∷ ys) zero low same = refl
met_words_at (x ∷ xs) (y ∷ ys) (suc g) low same = met_words_at xs ys g (omega arith) (omega arith)

pub open_most : (ws : List ℕ) (x : ℕ) → open_at ws x ≤ 1
open_most ws zero = omega arith
open_most ws (suc c) = omega (arith, bit_at-lt (slice_index ws (c / 32)) (c % 32))

-- what is open after a join was open in both
open_met : (xs ys : List ℕ) (x : ℕ) → length xs ≡ length ys
    → (open_at (met_words xs ys) x ≤ open_at xs x) × (open_at (met_words xs ys) x ≤ open_at ys x)
open_met xs ys zero same = (omega arith, omega arith)
open_met xs ys (suc c) same =
    ⊎_elim
    (λ (low : c / 32 < length xs).
    let is = met_words_at xs ys (c / 32) low same in
    let on : alive (met_words xs ys) (suc c) ≡ min (alive xs (suc c)) (alive ys (suc c)) =
    ap (λ (w : ℕ). bit_at w (c % 32)) is ∙ met_alive (slice_index xs (c / 32)) (slice_index ys (c / 32)) (c % 32) (omega arith) in
    let off : fixed (met_words xs ys) (suc c) ≡ max (fixed xs (suc c)) (fixed ys (suc c)) =
    ap (λ (w : ℕ). bit_at w (32 + c % 32)) is ∙ met_fixed (slice_index xs (c / 32)) (slice_index ys (c / 32)) (c % 32) (omega arith) in
    (omega (arith, on, off), omega (arith, on, off)))
    (λ (past : length xs ≤ c / 32).
    let none : alive (met_words xs ys) (suc c) ≡ 0 =
    ap (λ (w : ℕ). bit_at w (c % 32)) (get_or_past (met_words xs ys) (c / 32) 0 (omega (arith, met_words_size xs ys same))) ∙ bit_at-zero (c % 32) in
    (omega (arith, none), omega (arith, none)))
    (cases_lt (c / 32) (length xs))

pub none_open_left : (xs ys : List ℕ) → length xs ≡ length ys → NoneOpen xs → NoneOpen (met_words xs ys)
none_open_left xs ys same none x = omega (arith, none x, open_met xs ys x same)

pub none_open_right : (xs ys : List ℕ) → length xs ≡ length ys → NoneOpen ys → NoneOpen (met_words xs ys)
none_open_right xs ys same none x = omega (arith, none x, open_met xs ys x same)

alive_candidate : (a : About) (ws : List ℕ) (x : ℕ) → AreWords a ws → alive ws x ≤ candidate a.formula x
alive_candidate a ws zero words = omega arith
alive_candidate a ws (suc c) words =
    ⊎_elim
    (λ (low : c / 32 < groups a.formula.vars).
    let place : 32 * (c / 32) + c % 32 ≡ c = omega arith in
    let bits = (words.inside (c / 32) low (c % 32) (omega arith)).0 in
    let same : candidate a.formula (suc (32 * (c / 32) + c % 32)) ≡ candidate a.formula (suc c) = ap (λ (k : ℕ). candidate a.formula (suc k)) place in
    omega arith)
    (λ (past : groups a.formula.vars ≤ c / 32).
    let none : alive ws (suc c) ≡ 0 = ap (λ (w : ℕ). bit_at w (c % 32)) (get_or_past ws (c / 32) 0 (omega (arith, words.size))) ∙ bit_at-zero (c % 32) in
    omega arith)
    (cases_lt (c / 32) (groups a.formula.vars))

none_counted : (ws : List ℕ) (n x : ℕ) → open_count ws n ≡ 0 → 0 < x → x ≤ n → open_at ws x ≡ 0
unfolding open_count
none_counted ws zero x none some high = absurd (omega arith)
none_counted ws (suc n) x none some high =
    ⊎_elim
    (λ (last : x ≡ suc n). ap (open_at ws) last ∙ (let e : open_at ws (suc n) ≡ 0 = omega (arith, none) in e))
    (λ (other : x ≢ suc n). none_counted ws n x (omega (arith, none)) some (omega arith))
    (cases_eq x (suc n))

pub none_open : (a : About) (ws : List ℕ) → AreWords a ws → open_count ws a.formula.vars ≡ 0 → NoneOpen ws
none_open a ws words none zero = omega arith
none_open a ws words none (suc c) =
    ⊎_elim
    (λ (past : a.formula.vars < suc c). omega (arith, alive_candidate a ws (suc c) words, candidate_past a.formula (suc c) past))
    (λ (high : suc c ≤ a.formula.vars). none_counted ws a.formula.vars (suc c) none (omega arith) high)
    (cases_lt a.formula.vars (suc c))

-- Models after others.
model_left : (s t : Store) (k : ℕ) → k < length s.models → model_at s k ≡ model_at (with_models s t) k
model_left s t k low = sym (get_or-append s.models t.models [] k low)

model_right : (s t : Store) (j k : ℕ) → k ≡ j + length s.models → model_at t j ≡ model_at (with_models s t) k
model_right s t j k is =
    let rest : k - length s.models ≡ j = omega arith in
    ap (model_at t) (sym rest) ∙ sym (get_or-append_right s.models t.models k [] (omega arith))

pub witness_kept : (a : About) (s t : Store) (w : Witness) → IsWitness a s w → IsWitness a (with_models s t) w
witness_kept a s t w is = record {
  range = record { model = omega (arith, length-append s.models t.models, is.range.model); low = is.range.low; high = is.range.high };
  against = subst (λ (m : Assignment). IsAgainst a.formula (if w.flip then flipped m w.var else m) w.var (value_of a.phases w.var))
      (model_left s t w.model is.range.model) is.against;
}

pub witness_moved : (a : About) (s t : Store) (w : Witness) → t.formula ≡ s.formula → IsWitness a t w
    → IsWitness a (with_models s t) (moved (length s.models) w)
witness_moved a s t w same is = record {
  range = record {
    model = omega (arith, length-append s.models t.models, is.range.model);
    low = is.range.low;
    high = subst (λ (F : Cnf). w.var ≤ F.vars) same is.range.high;
  };
  against = subst (λ (m : Assignment). IsAgainst a.formula (if w.flip then flipped m w.var else m) w.var (value_of a.phases w.var))
      (model_right s t w.model (w.model + length s.models) refl) is.against;
}

keeping_same : (a : About) (s t : Store) (x p q : ℕ) → model_at s p ≡ model_at t q → IsKeeping a s x p → IsKeeping a t x q
keeping_same a s t x p q same keeping = record {
  by_value = subst (λ (m : Assignment). IsAgainst a.formula m x (value_of a.phases x) → ⊥) same keeping.by_value;
  by_flip = subst (λ (m : Assignment). IsAgainst a.formula (flipped m x) x (value_of a.phases x) → ⊥) same keeping.by_flip;
}

pub settled_joined : (a : About) (v u : View) (s t : Store) → length v.seen ≡ length u.seen → IsSettled a v s → IsSettled a u t
    → IsSettled a (joined v u) (with_models s t)
settled_joined a v u s t sizes left right x place some on within =
    let m = open_met v.seen u.seen x sizes in
    ⊎_elim
    (λ (low : place < length s.models). keeping_same a s (with_models s t) x place place (model_left s t place low)
    (left x place some (omega (arith, m.0, open_most v.seen x, on)) low))
    (λ (past : length s.models ≤ place).
    keeping_same a t (with_models s t) x (place - length s.models) place (model_right s t (place - length s.models) place (omega arith))
    (right x (place - length s.models) some (omega (arith, m.1, open_most u.seen x, on)) (omega (arith, length-append s.models t.models, within))))
    (cases_lt place (length s.models))

pub settled_kept : (a : About) (v u : View) (s : Store) → length v.seen ≡ length u.seen → IsSettled a v s → IsSettled a (joined v u) s
settled_kept a v u s sizes left x place some on within =
    left x place some (omega (arith, (open_met v.seen u.seen x sizes).0, open_most v.seen x, on)) within

-- Numbers that are out.
pub out_next : (below workers : ℕ) (out : List ℕ) → IsOut below workers out → IsOut (below + 1) workers (without_number below out)
out_next below workers out is = record {
  each = λ j low high.
      let other : j ≢ below = omega arith in
      omega (arith, times_kept below j out other, is.each j (omega arith) high);
  only = λ j some.
      ⊎_elim
      (λ (same : j ≡ below). absurd (let e : times j (without_number below out) ≡ 0 = ap (λ (k : ℕ). times k (without_number below out)) same ∙ times_gone below out in
      omega (arith, e, some)))
      (λ (other : j ≢ below). let is_in = is.only j (omega (arith, times_kept below j out other, some)) in (omega (arith, is_in.0), is_in.1))
      (cases_eq j below);
}
