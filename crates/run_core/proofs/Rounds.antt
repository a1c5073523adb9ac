-- The loop over the slots of the workers behind the first.
use Rattle.std.proofs.Common.{◌≡◌, ℕ, suc, ◌+◌, ◌<◌, ◌≤◌, List, ◌∷◌, length, sym, subst, arith}
use Rattle.std.specs.Prelude.{slice_index_or}
use Rattle.candidate_words.specs.Seats.{Board}
use Rattle.run_core.specs.declared.gathered.Gathered.{Gathered}
use Rattle.run_core.specs.declared.slot.Slot.{Slot}
use Rattle.run_core.specs.declared.slot.Slot.TheVariants.{Ready, Called, Done, Left, Empty}
use Rattle.run_core.specs.Steps.Crews.{IsBack, IsFirstBack, IsReturned}
use Rattle.run_core.specs.Steps.Gathers.{IsGathered, MayTakeIn, HasTakenIn, MayBegin, HasBegunIn}
use Rattle.run_core.proofs.Taking.{gathered_first, gathered_next, gathered_left, may_take, may_take_all}

-- the workers below a number were gathered, and the rest of the slots are those of the others
pub record IsGathering {X : Type 0} {P : X → Type 0} (b : Board) (workers budget : ℕ) (rest : List (Slot X P)) (g : Gathered) : Type 0 where
  pub below : ℕ
  pub gathered : IsGathered b workers budget below g
  pub count : below + length rest ≡ workers
  pub back : (i : ℕ) (d : Slot X P) → i < length rest → IsBack b budget (below + i) (slice_index_or rest i d)

-- the first slot of those that came back, and the rest
pub record IsBegun {X : Type 0} {P : X → Type 0} (b : Board) (workers budget : ℕ) (slot : Slot X P) (rest : List (Slot X P)) : Type 0 where
  pub here : IsBack b budget 0 slot
  pub first : IsFirstBack b.about workers slot
  pub count : 1 + length rest ≡ workers
  pub back : (i : ℕ) (d : Slot X P) → i < length rest → IsBack b budget (1 + i) (slice_index_or rest i d)

pub begun : {X : Type 0} {P : X → Type 0} (b : Board) (workers budget : ℕ) (slots rest : List (Slot X P)) (slot : Slot X P)
    → slots ≡ slot ∷ rest → IsReturned b workers budget slots → IsBegun b workers budget slot rest
begun {X = X} {P = P} b workers budget slots rest slot is all =
    let same = subst (λ (xs : List (Slot X P)). IsReturned b workers budget xs) is all in record {
      here = same.back 0 slot (omega (arith, same.count));
      first = same.first slot;
      count = omega (arith, same.count);
      back = λ i d low.
          let e : suc i ≡ 1 + i = omega arith in
          subst (λ (n : ℕ). IsBack b budget n (slice_index_or rest i d)) e (same.back (suc i) d (omega (arith, same.count, low)));
    }

pub may_begin : {X : Type 0} {P : X → Type 0} (b : Board) (workers budget : ℕ) (slot : Slot X P) (rest : List (Slot X P))
    → IsBegun b workers budget slot rest → MayBegin slot
may_begin b workers budget (Ready w) rest is = is.here
may_begin b workers budget (Called r) rest is = is.here
may_begin b workers budget (Done f) rest is = tt
may_begin b workers budget (Left s) rest is = is.first
may_begin b workers budget Empty rest is = is.here

first_gathered : {X : Type 0} {P : X → Type 0} (b : Board) (workers budget : ℕ) (slot : Slot X P) (g : Gathered)
    → IsBack b budget 0 slot → IsFirstBack b.about workers slot → HasBegunIn slot g → IsGathered b workers budget 1 g
first_gathered b workers budget (Ready w) g here first begun = absurd begun
first_gathered b workers budget (Called r) g here first begun = absurd begun
first_gathered b workers budget (Done f) g here first begun = gathered_first b workers budget f g here first.0 first.1 begun
first_gathered b workers budget (Left s) g here first begun = absurd begun
first_gathered b workers budget Empty g here first begun = absurd begun

pub gathering_first : {X : Type 0} {P : X → Type 0} (b : Board) (workers budget : ℕ) (slot : Slot X P) (rest now : List (Slot X P)) (g : Gathered)
    → now ≡ rest → IsBegun b workers budget slot rest → HasBegunIn slot g → IsGathering b workers budget now g
gathering_first {X = X} {P = P} b workers budget slot rest now g same is begun =
    subst (λ (xs : List (Slot X P)). IsGathering b workers budget xs g) (sym same) (record {
      below = 1;
      gathered = first_gathered b workers budget slot g is.here is.first begun;
      count = is.count;
      back = is.back;
    })

next_back : {X : Type 0} {P : X → Type 0} (b : Board) (workers budget : ℕ) (slot : Slot X P) (rest : List (Slot X P)) (g : Gathered)
    → (is : IsGathering b workers budget (slot ∷ rest) g) → IsBack b budget is.below slot
next_back b workers budget slot rest g is =
    let zeroth : is.below + 0 ≡ is.below = omega arith in
    subst (λ (n : ℕ). IsBack b budget n slot) zeroth (is.back 0 slot (omega arith))

-- what is in the next slot may be taken
takes : {X : Type 0} {P : X → Type 0} (b : Board) (workers budget : ℕ) (slot : Slot X P) (rest : List (Slot X P)) (g : Gathered)
    → workers ≤ 16 → b.about.formula.vars ≤ 1048576 → IsGathering b workers budget (slot ∷ rest) g → MayTakeIn b g slot
takes b workers budget (Ready w) rest g few vars is = next_back b workers budget (Ready w) rest g is
takes b workers budget (Called r) rest g few vars is = next_back b workers budget (Called r) rest g is
takes b workers budget (Done f) rest g few vars is =
    may_take_all b workers budget is.below g f is.gathered (next_back b workers budget (Done f) rest g is) (omega (arith, is.count)) few vars
takes b workers budget (Left s) rest g few vars is =
    let left = next_back b workers budget (Left s) rest g is in
    may_take b workers budget is.below g s is.gathered (omega (arith, is.count)) left.sits left.number
takes b workers budget Empty rest g few vars is = next_back b workers budget Empty rest g is

pub takes_next : {X : Type 0} {P : X → Type 0} (b : Board) (workers budget : ℕ) (slot : Slot X P) (rest all : List (Slot X P)) (g : Gathered)
    → all ≡ slot ∷ rest → workers ≤ 16 → b.about.formula.vars ≤ 1048576 → IsGathering b workers budget all g → MayTakeIn b g slot
takes_next {X = X} {P = P} b workers budget slot rest all g same few vars is =
    takes b workers budget slot rest g few vars (subst (λ (xs : List (Slot X P)). IsGathering b workers budget xs g) same is)

next_gathered : {X : Type 0} {P : X → Type 0} (b : Board) (workers budget below : ℕ) (slot : Slot X P) (g h : Gathered)
    → IsGathered b workers budget below g → IsBack b budget below slot → HasTakenIn b g slot h → IsGathered b workers budget (below + 1) h
next_gathered b workers budget below (Ready w) g h is back took = absurd back
next_gathered b workers budget below (Called r) g h is back took = absurd back
next_gathered b workers budget below (Done f) g h is back took = gathered_next b workers budget below g h f is back took
next_gathered b workers budget below (Left s) g h is back took = gathered_left b workers budget below g h s is back took
next_gathered b workers budget below Empty g h is back took = absurd back

goes_on : {X : Type 0} {P : X → Type 0} (b : Board) (workers budget : ℕ) (slot : Slot X P) (rest : List (Slot X P)) (g h : Gathered)
    → IsGathering b workers budget (slot ∷ rest) g → HasTakenIn b g slot h → IsGathering b workers budget rest h
goes_on b workers budget slot rest g h is took = record {
  below = is.below + 1;
  gathered = next_gathered b workers budget is.below slot g h is.gathered (next_back b workers budget slot rest g is) took;
  count = omega (arith, is.count);
  back = λ i d low.
      let later : is.below + suc i ≡ is.below + 1 + i = omega arith in
      subst (λ (n : ℕ). IsBack b budget n (slice_index_or rest i d)) later (is.back (suc i) d (omega (arith, low)));
}

pub gathering_next : {X : Type 0} {P : X → Type 0} (b : Board) (workers budget : ℕ) (slot : Slot X P) (rest all : List (Slot X P)) (g h : Gathered)
    → all ≡ slot ∷ rest → IsGathering b workers budget all g → HasTakenIn b g slot h → IsGathering b workers budget rest h
gathering_next {X = X} {P = P} b workers budget slot rest all g h same is took =
    goes_on b workers budget slot rest g h (subst (λ (xs : List (Slot X P)). IsGathering b workers budget xs g) same is) took

pub gathered_all : {X : Type 0} {P : X → Type 0} (b : Board) (workers budget : ℕ) (rest : List (Slot X P)) (g : Gathered) → length rest ≡ 0
    → IsGathering b workers budget rest g → IsGathered b workers budget workers g
gathered_all b workers budget rest g none is =
    let all : is.below ≡ workers = omega (arith, is.count, none) in
    subst (λ (n : ℕ). IsGathered b workers budget n g) all is.gathered
