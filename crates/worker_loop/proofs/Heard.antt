-- Literals that are taken over one after another.
use Rattle.std.proofs.Common.{◌≡◌, ◌≢◌, ℕ, suc, ◌+◌, ◌-◌, ◌*◌, ◌/◌, ◌%◌, ◌<◌, ◌≤◌, inl, inr, List, get_or, refl, sym, ap, ◌∙◌}
use Rattle.std.proofs.Common.{subst, ⊎_elim, arith}
use Rattle.std.specs.Prelude.{slice_index, OnOk, Result, Ok, Err}
use Rattle.std.specs.Int.{bit_at}
use Rattle.std.proofs.lemmas.Bool.{cases_eq, cases_lt}
use Rattle.std.proofs.lemmas.List.{get_or_default}
use Rattle.std.proofs.lemmas.Nat.Bits.{bit_at-lt, bit_at-zero}
use Rattle.cnf_core.specs.declared.memory.NoMemory.{NoMemory}
use Rattle.cnf_core.specs.Formulas.{true_literal}
use Rattle.board_core.proofs.Ends.{candidate-lt}
use Rattle.lrat_log.specs.Entries.{Recorded}
use Rattle.board_core.specs.Subjects.{About, groups, candidate}
use Rattle.board_core.specs.Words.{fixed}
use Rattle.candidate_words.specs.Seats.{Board, Sits}
use Rattle.assumption_solver.specs.Units.{HasUnit}
use Rattle.worker_loop.specs.declared.post.Post.{Post}
use Rattle.worker_loop.specs.Posts.{IsLonger}
use Rattle.worker_loop.specs.Steps.Held.{IsPost}
use Rattle.worker_loop.specs.Steps.Moves.{IsHearing, IsAskedTimes, HasListened, HasHeardOne, HasHeardBit, HasHeardBits, HasHeardIn}
use Rattle.worker_loop.specs.Steps.Moves.{HasHeard, HasTaken, IsLoaded}
use Rattle.worker_loop.proofs.Queries.{asked_after, asked_same}
use Rattle.worker_loop.proofs.Turning.{learnt_longer}
use Rattle.worker_loop.specs.Steps.Dropping.{HasCandidates}
use Rattle.worker_loop.proofs.Picks.{var_within}
use Rattle.worker_loop.proofs.Grown.{unit_longer}
use Rattle.worker_loop.proofs.Imports.{taken_refl, taken_trans}
use Rattle.worker_loop.proofs.Onward.{hearing_refl, hearing_trans}

pub asked_trans : (L M N : Recorded) → IsLonger L M → IsLonger M N → IsAskedTimes 0 L M → IsAskedTimes 0 M N → IsAskedTimes 0 L N
asked_trans L M N one two first second =
    asked_after 0 0 L M N (learnt_longer L M one) (learnt_longer M N two) first second

pub listened_refl : (b : Board) (p : Post) → IsPost p → Sits b p.seat → HasListened b p p
listened_refl b p h sits = record {
  post = h;
  sits = sits;
  hearing = hearing_refl p;
  models = refl;
  seen = refl;
  asked = asked_same p.solver.log p.solver.log refl;
}

pub listened_trans : (b : Board) (p q r : Post) → HasListened b p q → HasListened b q r → HasListened b p r
listened_trans b p q r one two = record {
  post = two.post;
  sits = two.sits;
  hearing = hearing_trans p q r one.hearing two.hearing;
  models = two.models ∙ one.models;
  seen = two.seen ∙ one.seen;
  asked = asked_trans p.solver.log q.solver.log r.solver.log one.hearing.log two.hearing.log one.asked two.asked;
}

-- what was heard stays heard
pub still_heard : (b : Board) (p q r : Post) (x : ℕ) → HasListened b q r → HasHeardOne p q x → HasHeardOne p r x
still_heard b p q r x step heard = ⊎_elim
    (λ (u : HasUnit q.solver.log (true_literal p.question.now.phases x)). inl (unit_longer q.solver.log r.solver.log _ step.hearing.log u))
    (λ (l : slice_index p.seat.view.looks (x - 1) < slice_index q.seat.view.looks (x - 1)). inr
    (omega (arith, l, step.hearing.looks (x - 1))))
    heard

-- what is heard in a later step is heard in both
pub heard_from : (b : Board) (p q r : Post) (x : ℕ) → HasListened b p q → HasHeardOne q r x → HasHeardOne p r x
heard_from b p q r x step heard = ⊎_elim
    (λ (u : HasUnit r.solver.log (true_literal q.question.now.phases x)).
    inl (subst (λ (a : About). HasUnit r.solver.log (true_literal a.phases x)) step.hearing.question u))
    (λ (l : slice_index q.seat.view.looks (x - 1) < slice_index r.seat.view.looks (x - 1)). inr
    (omega (arith, l, step.hearing.looks (x - 1))))
    heard

-- the bits below k
pub record HasHeardBelow (b : Board) (p q : Post) (g mask k : ℕ) : Type 0 where
  pub listened : HasListened b p q
  pub heard : (i : ℕ) → i < k → HasHeardBit p q g mask i
  pub taken : HasTaken p q

pub heard_none : (b : Board) (p : Post) (g mask : ℕ) → IsPost p → Sits b p.seat → HasHeardBelow b p p g mask 0
heard_none b p g mask h sits = record {
  listened = listened_refl b p h sits;
  heard = λ i low. absurd (omega (arith, low));
  taken = taken_refl p;
}

pub heard_next : (b : Board) (p q r : Post) (g mask k : ℕ) → HasHeardBelow b p q g mask k → HasListened b q r → HasHeardBit q r g mask k
    → HasTaken q r → HasHeardBelow b p r g mask (k + 1)
heard_next b p q r g mask k below step here takes = record {
  listened = listened_trans b p q r below.listened step;
  heard = λ i low is. ⊎_elim
      (λ (last : i ≡ k).
      heard_from b p q r (suc (32 * g + i)) below.listened
      (subst (λ (j : ℕ). HasHeardOne q r (suc (32 * g + j))) (sym last) (here (subst (λ (j : ℕ). bit_at mask j ≡ 1) last is))))
      (λ (other : i ≢ k). still_heard b p q r (suc (32 * g + i)) step (below.heard i (omega (arith, low, other)) is))
      (cases_eq i k);
  taken = taken_trans p q r below.taken takes below.listened.hearing.question step.hearing.log;
}

-- the groups below k
pub record HasHeardUpTo (b : Board) (p q : Post) (k : ℕ) : Type 0 where
  pub listened : HasListened b p q
  pub heard : (g : ℕ) → g < k → HasHeardIn p q g
  pub taken : HasTaken p q

pub up_to_none : (b : Board) (p : Post) → IsPost p → Sits b p.seat → HasHeardUpTo b p p 0
up_to_none b p h sits = record {
  listened = listened_refl b p h sits;
  heard = λ g low. absurd (omega (arith, low));
  taken = taken_refl p;
}

pub up_to_next : (b : Board) (p q r : Post) (k : ℕ) → HasHeardUpTo b p q k → HasListened b q r → HasHeardIn q r k → HasTaken q r
    → HasHeardUpTo b p r (k + 1)
up_to_next b p q r k below step here takes = record {
  listened = listened_trans b p q r below.listened step;
  heard = λ g low i within is. ⊎_elim
      (λ (last : g ≡ k).
      heard_from b p q r (suc (32 * g + i)) below.listened
      (subst (λ (j : ℕ). HasHeardOne q r (suc (32 * j + i))) (sym last)
      (here i within
      (ap (λ (ws : List ℕ). fixed ws (suc (32 * k + i))) below.listened.hearing.copy
      ∙ subst (λ (j : ℕ). fixed p.loaded.items (suc (32 * j + i)) ≡ 1) last is))))
      (λ (other : g ≢ k). still_heard b p q r (suc (32 * g + i)) step (below.heard g (omega (arith, low, other)) i within is))
      (cases_eq g k);
  taken = taken_trans p q r below.taken takes below.listened.hearing.question step.hearing.log;
}

-- all groups
pub heard_all : (b : Board) (p q : Post) (k : ℕ) → groups p.question.now.formula.vars ≤ k → HasHeardUpTo b p q k → HasHeard p q
heard_all b p q k high below x low within is =
    let g = (x - 1) / 32 in
    let i = (x - 1) % 32 in
    let e : suc (32 * g + i) ≡ x = omega (arith, low) in
    subst (λ (y : ℕ). HasHeardOne p q y) e
    (below.heard g (omega (arith, low, within, high)) i (omega arith) (subst (λ (y : ℕ). fixed p.loaded.items y ≡ 1) (sym e) is))

pub on_ok : (r : Result (Unit {0}) NoMemory) (P Q : Type 0) → (P → Q) → OnOk r P → OnOk r Q
on_ok (Ok _) P Q step h = step h
on_ok (Err _) P Q step h = h

-- the bits of a group's mask that are fixed in the loaded word and not marked as root units
pub record AreUnknown (p : Post) (g mask : ℕ) : Type 0 where
  pub bits : (i : ℕ) → i < 32 → bit_at mask i ≡ bit_at (slice_index p.loaded.items g) (32 + i) - bit_at (slice_index p.rooted.items g) i

pub unknown_read : (p : Post) (g mask w r : ℕ) → IsPost p → g < groups p.question.now.formula.vars
    → w ≡ get_or p.loaded.items g w → r ≡ get_or p.rooted.items g r
    → ((i : ℕ) → i < 32 → bit_at mask i ≡ bit_at w (32 + i) - bit_at r i) → AreUnknown p g mask
unknown_read p g mask w r h low word marks bits =
    let loaded : w ≡ slice_index p.loaded.items g = word ∙ get_or_default p.loaded.items g w 0 (omega (arith, low, h.loaded)) in
    let rooted : r ≡ slice_index p.rooted.items g = marks ∙ get_or_default p.rooted.items g r 0 (omega (arith, low, h.rooted_length)) in
    record {
      bits = λ i within. bits i within
          ∙ ap (λ (v : ℕ). bit_at v (32 + i) - bit_at r i) loaded
          ∙ ap (λ (v : ℕ). bit_at (slice_index p.loaded.items g) (32 + i) - bit_at v i) rooted;
    }

-- a loaded word fixes candidates alone
fixed_candidate : (p : Post) (g i : ℕ) → IsPost p → IsLoaded p → g < groups p.question.now.formula.vars → i < 32
    → 1 ≤ bit_at (slice_index p.loaded.items g) (32 + i) → candidate p.question.now.formula (suc (32 * g + i)) ≡ 1
fixed_candidate p g i h copied low within some =
    let inside = (h.view.loaded.inside g low i within).1 in
    let here : 1 ≤ bit_at (slice_index p.seat.view.loaded g) (32 + i) = subst
    (λ (ws : List ℕ). 1 ≤ bit_at (slice_index ws g) (32 + i)) copied some in
    omega (arith, inside, here, candidate-lt p.question.now.formula (suc (32 * g + i)))

pub unknown_candidates : (p : Post) (g mask : ℕ) → IsPost p → IsLoaded p → g < groups p.question.now.formula.vars → AreUnknown p g mask
    → HasCandidates p.question.now g mask
unknown_candidates p g mask h copied low are i within is =
    fixed_candidate p g i h copied low within (omega (arith, are.bits i within, is))

-- what is fixed in the word is a root unit, or one of the bits
pub heard_in : (p q : Post) (g mask : ℕ) → IsPost p → IsLoaded p → g < groups p.question.now.formula.vars → AreUnknown p g mask
    → IsLonger p.solver.log q.solver.log → HasHeardBits p q g mask → HasHeardIn p q g
heard_in p q g mask h copied low are log heard i within is =
    let x = suc (32 * g + i) in
    let group : (32 * g + i) / 32 ≡ g = omega (arith, within) in
    let place : (32 * g + i) % 32 ≡ i = omega (arith, within) in
    let there : bit_at (slice_index p.loaded.items g) (32 + (32 * g + i) % 32) ≡ 1 =
    subst (λ (k : ℕ). bit_at (slice_index p.loaded.items k) (32 + (32 * g + i) % 32) ≡ 1) group is in
    let here : bit_at (slice_index p.loaded.items g) (32 + i) ≡ 1 = subst
    (λ (k : ℕ). bit_at (slice_index p.loaded.items g) (32 + k) ≡ 1) place there in
    let high = var_within p.question.now.formula g i (fixed_candidate p g i h copied low within (omega (arith, here))) in
    ⊎_elim
    (λ (unknown : bit_at (slice_index p.rooted.items g) i < 1). heard i within (omega (arith, are.bits i within, here, unknown)))
    (λ (known : 1 ≤ bit_at (slice_index p.rooted.items g) i).
    let one : bit_at (slice_index p.rooted.items g) i ≡ 1 = omega (arith, known, bit_at-lt (slice_index p.rooted.items g) i) in
    let word : (x - 1) / 32 ≡ g = omega (arith, within) in
    let bit : (x - 1) % 32 ≡ i = omega (arith, within) in
    let same : bit_at (slice_index p.rooted.items ((x - 1) / 32)) ((x - 1) % 32) ≡ 1 =
    subst (λ (k : ℕ). bit_at (slice_index p.rooted.items k) ((x - 1) % 32) ≡ 1) (sym word)
    (subst (λ (k : ℕ). bit_at (slice_index p.rooted.items g) k ≡ 1) (sym bit) one) in
    inl (unit_longer p.solver.log q.solver.log _ log (h.rooted x (omega arith) (omega (arith, high)) same)))
    (cases_lt (bit_at (slice_index p.rooted.items g) i) 1)

pub none_heard : (p : Post) (g mask : ℕ) → mask ≡ 0 → HasHeardBits p p g mask
none_heard p g mask none i within is =
    let zero : bit_at mask i ≡ 0 = ap (λ (m : ℕ). bit_at m i) none ∙ bit_at-zero i in
    absurd (omega (arith, zero, is))

pub loaded_still : (p q : Post) → IsHearing p q → IsLoaded p → IsLoaded q
loaded_still p q step copied = step.copy ∙ copied ∙ sym step.loaded
