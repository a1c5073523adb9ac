-- The slots of a crew, while it is hired and once it has run.
use Rattle.std.proofs.Common.{◌≡◌, ℕ, ◌+◌, ◌<◌, ◌≤◌, inl, inr, eqb, List, [], ◌∷◌, ◌++◌, length, take, drop, refl, sym, ap, ◌∙◌, subst, arith}
use Rattle.std.specs.Prelude.{slice_index_or, slice_set}
use Rattle.std.proofs.lemmas.Bool.{cases_Bool, eqb-true, eqb-false}
use Rattle.std.proofs.lemmas.List.{get_or-set_same, get_or-set_other, get_or_default, length-set, take_at}
use Rattle.cnf_core.specs.Literals.{Assignment}
use Rattle.board_core.specs.Subjects.{About}
use Rattle.board_core.specs.Rules.{IsView}
use Rattle.candidate_words.specs.Seats.{Board, Sitter, Sits}
use Rattle.core_chunks.specs.Chunks.{open_count}
use Rattle.model_store.specs.Stores.{Store, with_model}
use Rattle.worker_loop.specs.declared.findings.Findings.{Findings}
use Rattle.worker_loop.specs.Posts.{WorkerState, PostState, IsUnused, IsNewPost, IsLater}
use Rattle.worker_loop.specs.Runs.{HasFewModels, IsFound}
use Rattle.worker_loop.proofs.Blocks.{open_most}
use Rattle.run_core.specs.declared.settings.RunSettings.{RunSettings}
use Rattle.run_core.specs.declared.slot.Recruit.{Recruit}
use Rattle.run_core.specs.declared.slot.Slot.{Slot}
use Rattle.run_core.specs.declared.slot.Slot.TheVariants.{Ready, Called, Done, Left, Empty}
use Rattle.run_core.specs.Steps.Crews.{IsReady, IsLeft, IsHome, IsOut, IsRootAt, IsAtRoot, IsCalled, HasServed, IsVacant, IsStaffed, IsPlaced, IsClosed, IsBack, IsFirstReady, IsFirstBack}
use Rattle.run_core.specs.Steps.Crews.{MayRun, Ran, HaveRun, AreVacant, IsHiring, IsCrew, IsReturned}

new_ready : (b : Board) (a : About) (budget n : ℕ) (s : Sitter) (w : WorkerState) → b.about ≡ a → Sits b s → s.view.number ≡ n
    → w.number ≡ n → IsNewPost a s budget w.post → IsReady b budget n w
new_ready b a budget n s w about sits at number new = record {
  number = number;
  about = new.about ∙ sym about;
  sits = subst (λ (t : Sitter). Sits b t) (sym new.seat) sits;
  seat = ap (λ (t : Sitter). t.view.number) new.seat ∙ at;
  few = omega (arith, ap length new.no_models, open_most w.post.seat.view.seen w.post.about.formula.vars);
  budget = new.budget;
}

-- a new worker has stored nothing
pub new_few : (a : About) (s : Sitter) (limit : ℕ) (p : PostState) → IsNewPost a s limit p → HasFewModels 2 p
new_few a s limit p new = omega (arith, ap length new.no_models, open_most p.seat.view.seen p.about.formula.vars)

-- the first worker, once it has absorbed the first model
pub first_ready : (b : Board) (a : About) (workers budget : ℕ) (s : Sitter) (w v : WorkerState) → b.about ≡ a → IsRootAt b workers s
    → w.number ≡ 0 → IsNewPost a s budget w.post → Sits b v.post.seat → IsLater w.post v.post → v.number ≡ w.number
    → v.post.models ≡ with_model w.post.models a.phases → IsReady b budget 0 v × IsAtRoot a workers v × HasFewModels 1 v.post
first_ready b a workers budget s w v about root number new sits later same stored =
    let models : v.post.models.models ≡ a.phases ∷ [] =
    ap (λ (m : Store). m.models) stored ∙ ap (λ (ms : List Assignment). ms ++ a.phases ∷ []) new.no_models in (
      record {
        number = same ∙ number;
        about = later.about ∙ new.about ∙ sym about;
        sits = sits;
        seat = later.number ∙ ap (λ (t : Sitter). t.view.number) new.seat ∙ root.number;
        few = omega (arith, ap length models, open_most v.post.seat.view.seen v.post.about.formula.vars);
        budget = later.budget ∙ new.budget;
      },
      record {
        models = ap (take 1) models;
        out = subst (λ (js : List ℕ). IsOut 1 workers js) (sym (later.out ∙ ap (λ (t : Sitter). t.view.out) new.seat)) root.out;
      },
      omega (arith, ap length models, open_most v.post.seat.view.seen v.post.about.formula.vars),
    )

-- a list that begins with another one has the same first element
same_first : {X : Type 0} (x : X) (xs ys : List X) → take (length xs) ys ≡ xs → take 1 xs ≡ x ∷ [] → take 1 ys ≡ x ∷ []
same_first x [] ys front first = absurd (omega (arith, ap length first))
same_first x (w ∷ xs) [] front first = absurd (omega (arith, ap length front))
same_first x (w ∷ xs) (y ∷ ys) front first = ap (take 1) front ∙ first

-- the first worker, once it has worked ahead
pub ahead_ready : (b : Board) (workers budget : ℕ) (w v : WorkerState) → IsReady b budget 0 w × IsAtRoot b.about workers w → Sits b v.post.seat
    → IsLater w.post v.post → v.number ≡ w.number → take (length w.post.models.models) v.post.models.models ≡ w.post.models.models
    → HasFewModels 2 v.post → IsReady b budget 0 v × IsAtRoot b.about workers v
ahead_ready b workers budget w v (ready, root) sits later same front few = (
  record {
    number = same ∙ ready.number;
    about = later.about ∙ ready.about;
    sits = sits;
    seat = later.number ∙ ready.seat;
    few = few;
    budget = later.budget ∙ ready.budget;
  },
  record {
    models = same_first b.about.phases w.post.models.models v.post.models.models front root.models;
    out = subst (λ (js : List ℕ). IsOut 1 workers js) (sym later.out) root.out;
  },
)

-- the first worker in its slot
pub hiring_first : {X : Type 0} {P : X → Type 0} (b : Board) (workers budget : ℕ) (slots : List (Slot X P)) (w : _) → 1 ≤ workers
    → AreVacant b workers 1 workers slots → IsReady b budget 0 w → IsAtRoot b.about workers w
    → IsHiring b workers budget 1 (slice_set slots 0 (Ready w))
hiring_first {X} {P} b workers budget slots w some seats ready root =
    let there : (d : Slot X P) → slice_index_or (slice_set slots 0 (Ready w)) 0 d ≡ Ready w =
    λ d. get_or-set_same slots 0 (Ready w) d (omega (arith, seats.many)) in record {
      seats = record {
        many = length-set slots 0 (Ready w) ∙ seats.many;
        vacant = λ i d low high.
            subst (λ (s : Slot X P). IsVacant b i s) (sym (get_or-set_other slots 0 i (Ready w) d (λ e. omega arith))) (seats.vacant i d low high);
      };
      staffed = λ i d low.
          let here : i ≡ 0 = omega arith in
          subst (λ (k : ℕ). IsStaffed b budget k (slice_index_or (slice_set slots 0 (Ready w)) k d)) (sym here)
          (subst (λ (s : Slot X P). IsStaffed b budget 0 s) (sym (there d)) ready);
      first = λ d. subst (λ (s : Slot X P). IsFirstReady b.about workers s) (sym (there d)) root;
    }

-- another worker in its slot, or its seat
pub hiring_next : {X : Type 0} {P : X → Type 0} (b : Board) (workers budget n : ℕ) (slots : List (Slot X P)) (slot : Slot X P) → 1 ≤ n → n < workers
    → IsHiring b workers budget n slots → IsStaffed b budget n slot → IsHiring b workers budget (n + 1) (slice_set slots n slot)
hiring_next {X} {P} b workers budget n slots slot some high old is = record {
  seats = record {
    many = length-set slots n slot ∙ old.seats.many;
    vacant = λ i d low below.
        subst (λ (s : Slot X P). IsVacant b i s) (sym (get_or-set_other slots n i slot d (λ e. omega arith)))
        (old.seats.vacant i d (omega arith) below);
  };
  staffed = λ i d low. elim (cases_Bool (eqb i n)) [
    | inl same ↦
        let here : i ≡ n = eqb-true i n same in
        subst (λ (k : ℕ). IsStaffed b budget k (slice_index_or (slice_set slots n slot) k d)) (sym here)
        (subst (λ (s : Slot X P). IsStaffed b budget n s) (sym (get_or-set_same slots n slot d (omega (arith, old.seats.many)))) is)
    | inr other ↦
        let not_here : i ≡ n → ⊥ = eqb-false i n other in
        subst (λ (s : Slot X P). IsStaffed b budget i s) (sym (get_or-set_other slots n i slot d not_here))
        (old.staffed i d (omega arith))
  ];
  first = λ d. subst (λ (s : Slot X P). IsFirstReady b.about workers s)
      (sym (get_or-set_other slots n 0 slot d (λ e. omega arith))) (old.first d);
}

left_placed : {X : Type 0} {P : X → Type 0} (b : Board) (budget n : ℕ) (slot : Slot X P) → IsVacant b n slot → IsPlaced b budget n slot
left_placed b budget n (Ready w) is = absurd is
left_placed b budget n (Called r) is = absurd is
left_placed b budget n (Done f) is = absurd is
left_placed b budget n (Left s) is = is
left_placed b budget n Empty is = absurd is

staffed_placed : {X : Type 0} {P : X → Type 0} (b : Board) (budget n : ℕ) (slot : Slot X P) → IsStaffed b budget n slot → IsPlaced b budget n slot
staffed_placed b budget n (Ready w) is = is
staffed_placed b budget n (Called r) is = is
staffed_placed b budget n (Done f) is = absurd is
staffed_placed b budget n (Left s) is = absurd is
staffed_placed b budget n Empty is = absurd is

-- the first worker has closed all, so that nobody else is called
pub closed_first : {X : Type 0} {P : X → Type 0} (slots : List (Slot X P)) (w : WorkerState) → 1 ≤ length slots
    → open_count w.post.seat.view.seen w.post.about.formula.vars ≡ 0 → (d : Slot X P) → IsClosed (slice_index_or (slice_set slots 0 (Ready w)) 0 d)
closed_first {X} {P} slots w some closed d = subst (λ (s : Slot X P). IsClosed s) (sym (get_or-set_same slots 0 (Ready w) d some)) closed

pub crew_left : {X : Type 0} {P : X → Type 0} (b : Board) (workers budget : ℕ) (slots : List (Slot X P)) → IsHiring b workers budget 1 slots
    → ((d : Slot X P) → IsClosed (slice_index_or slots 0 d)) → IsCrew b workers budget slots
crew_left {X} {P} b workers budget slots is closed = record {
  count = is.seats.many;
  placed = λ i d low. elim (cases_Bool (eqb i 0)) [
    | inl here ↦ staffed_placed b budget i (slice_index_or slots i d) (is.staffed i d (omega (arith, eqb-true i 0 here)))
    | inr other ↦
        let not_first : i ≡ 0 → ⊥ = eqb-false i 0 other in
        left_placed b budget i (slice_index_or slots i d) (is.seats.vacant i d (at_least_one i not_first) low)
  ];
  called = inr closed;
  first = is.first;
}
  where
    at_least_one : (i : ℕ) → (i ≡ 0 → ⊥) → 1 ≤ i
    at_least_one i other = omega arith

pub crew_hired : {X : Type 0} {P : X → Type 0} (b : Board) (workers budget n : ℕ) (slots : List (Slot X P)) → workers ≤ n → IsHiring b workers budget n slots
    → IsCrew b workers budget slots
crew_hired b workers budget n slots all is = record {
  count = is.seats.many;
  placed = λ i d low. staffed_placed b budget i (slice_index_or slots i d) (is.staffed i d (omega arith));
  called = inl (λ i d low. is.staffed i d (omega arith));
  first = is.first;
}

may_run : {X : Type 0} {P : X → Type 0} (b : Board) (budget n : ℕ) (slot : Slot X P) → IsPlaced b budget n slot → MayRun b slot
may_run b budget n (Ready w) is = (is.sits, is.few)
may_run {X} {P} b budget n (Called r) is =
    subst (λ (k : ℕ). IsCalled b r.share.budget k r) (sym is.number) (subst (λ (k : ℕ). IsCalled b k n r) (sym is.budget) is)
may_run b budget n (Done f) is = absurd is
may_run b budget n (Left s) is = tt {0}
may_run b budget n Empty is = absurd is

-- the workers of a crew may run
pub crew_may_run : {X : Type 0} {P : X → Type 0} (b : Board) (workers budget : ℕ) (slots : List (Slot X P)) → IsCrew b workers budget slots
    → (i : ℕ) (d : Slot X P) → i < length slots → MayRun b (slice_index_or slots i d)
crew_may_run b workers budget slots crew i d low =
    may_run b budget i (slice_index_or slots i d) (crew.placed i d (omega (arith, crew.count)))

back_of : {X : Type 0} {P : X → Type 0} (b : Board) (budget n : ℕ) (slot new : Slot X P) → IsPlaced b budget n slot → Ran b slot new → IsBack b budget n new
back_of b budget n (Ready w) (Ready v) is ran = ran
back_of b budget n (Ready w) (Called r) is ran = ran
back_of b budget n (Ready w) (Done f) is ran = record { worker = w; ready = is; found = ran }
back_of b budget n (Ready w) (Left s) is ran = absurd ran
back_of b budget n (Ready w) Empty is ran = ran
back_of b budget n (Called r) (Ready v) is ran = ran
back_of b budget n (Called r) (Called q) is ran = ran
back_of b budget n (Called r) (Done f) is ran = record {
  worker = ran.worker;
  ready = new_ready b b.about budget n r.seat ran.worker refl is.left.sits is.left.number (ran.number ∙ is.number)
      (subst (λ (k : ℕ). IsNewPost b.about r.seat k ran.worker.post) is.budget ran.new);
  found = ran.found;
}
back_of b budget n (Called r) (Left s) is ran = subst (λ (t : Sitter). IsLeft b n t) (sym ran) is.left
back_of b budget n (Called r) Empty is ran = ran
back_of b budget n (Done f) new is ran = absurd is
back_of {X} {P} b budget n (Left s) new is ran = subst (λ (slot : Slot X P). IsBack b budget n slot) (sym ran) is
back_of b budget n Empty new is ran = absurd is

first_back : {X : Type 0} {P : X → Type 0} (b : Board) (workers : ℕ) (slot new : Slot X P) → IsFirstReady b.about workers slot → Ran b slot new
    → IsFirstBack b.about workers new
first_back b workers (Ready w) (Ready v) is ran = ran
first_back b workers (Ready w) (Called r) is ran = ran
first_back b workers (Ready w) (Done f) is ran = (
  same_first b.about.phases w.post.models.models f.models.models ran.first is.models,
  subst (λ (js : List ℕ). IsOut 1 workers js) (sym ran.out) is.out,
)
first_back b workers (Ready w) (Left s) is ran = ran
first_back b workers (Ready w) Empty is ran = ran
first_back b workers (Called r) new is ran = absurd is
first_back b workers (Done f) new is ran = absurd is
first_back b workers (Left s) new is ran = absurd is
first_back b workers Empty new is ran = absurd is

some_worker : {X : Type 0} {P : X → Type 0} (b : Board) (workers budget : ℕ) (slots : List (Slot X P)) → IsCrew b workers budget slots → 1 ≤ workers
some_worker b workers budget [] crew = absurd (crew.first Empty)
some_worker b workers budget (s ∷ ss) crew = omega (arith, crew.count)

-- what came back once each has run
pub crew_returned : {X : Type 0} {P : X → Type 0} (b : Board) (workers budget : ℕ) (slots new : List (Slot X P)) → IsCrew b workers budget slots
    → length new ≡ length slots
    → ((i : ℕ) (d : Slot X P) → i < length slots → Ran b (slice_index_or slots i d) (slice_index_or new i d))
    → IsReturned b workers budget new
crew_returned b workers budget slots new crew len ran = record {
  count = len ∙ crew.count;
  back = λ i d low.
      back_of b budget i (slice_index_or slots i d) (slice_index_or new i d) (crew.placed i d low) (ran i d (omega (arith, crew.count)));
  first = λ d.
      first_back b workers (slice_index_or slots 0 d) (slice_index_or new 0 d) (crew.first d)
      (ran 0 d (omega (arith, crew.count, some_worker b workers budget slots crew)));
}

-- the worker of the next slot ran
pub run_next : {X : Type 0} {P : X → Type 0} (b : Board) (k : ℕ) (old now : List (Slot X P)) (slot : Slot X P) (e : Slot X P) → k < length old
    → HaveRun b k old now → Ran b (slice_index_or old k e) slot → HaveRun b (k + 1) old (slice_set now k slot)
run_next {X} {P} b k old now slot e low is ran = record {
  len = length-set now k slot ∙ is.len;
  ran = λ i d below. elim (cases_Bool (eqb i k)) [
    | inl same ↦
        let here : i ≡ k = eqb-true i k same in
        subst (λ (j : ℕ). Ran b (slice_index_or old j d) (slice_index_or (slice_set now k slot) j d)) (sym here)
        (subst (λ (s : Slot X P). Ran b (slice_index_or old k d) s) (sym (get_or-set_same now k slot d (omega (arith, is.len))))
        (subst (λ (s : Slot X P). Ran b s slot) (get_or_default old k e d low) ran))
    | inr other ↦
        let not_here : i ≡ k → ⊥ = eqb-false i k other in
        subst (λ (s : Slot X P). Ran b (slice_index_or old i d) s) (sym (get_or-set_other now k i slot d not_here)) (is.ran i d (omega arith))
  ];
  rest = λ i d above. get_or-set_other now k i slot d (λ e. omega arith) ∙ is.rest i d (omega arith);
}

-- the same slots of a crew whose settings and table didn't change
pub hiring_same : {X : Type 0} {P : X → Type 0} (b c : Board) (s t : RunSettings) (n : ℕ) (slots : List (Slot X P)) → b ≡ c → s ≡ t
    → IsHiring b s.workers s.budget n slots → IsHiring c t.workers t.budget n slots
hiring_same {X} {P} b c s t n slots board settings is =
    subst (λ (u : RunSettings). IsHiring c u.workers u.budget n slots) settings
    (subst (λ (a : Board). IsHiring a s.workers s.budget n slots) board is)

-- and what stands in the vector whose slice they ran in
pub crew_written : {X : Type 0} {P : X → Type 0} (b : Board) (workers budget : ℕ) (old slots new : List (Slot X P)) (n : ℕ) → n ≡ length old → slots ≡ old
    → IsCrew b workers budget old → length new ≡ length slots
    → ((i : ℕ) (d : Slot X P) → i < length slots → Ran b (slice_index_or slots i d) (slice_index_or new i d))
    → IsReturned b workers budget (take n (new ++ drop (length new) old))
crew_written {X} {P} b workers budget old slots new n size same crew len ran =
    let crew_here : IsCrew b workers budget slots = subst (λ (xs : List (Slot X P)). IsCrew b workers budget xs) (sym same) crew in
    let whole : take n (new ++ drop (length new) old) ≡ new = take_at new (drop (length new) old) n (len ∙ ap length same ∙ sym size) in
    subst (λ (xs : List (Slot X P)). IsReturned b workers budget xs) (sym whole) (crew_returned b workers budget slots new crew_here len ran)
