-- What a model that is stored and tried in every group leaves.
use Rattle.std.proofs.Common.{◌≡◌, ◌≢◌, ℕ, suc, ◌+◌, ◌-◌, ◌*◌, ◌/◌, ◌%◌, ◌<◌, ◌≤◌, ◌⊎◌, not, Bool, true, false, List, [], ◌∷◌, length, Vec, Global, sym, ap, ◌∙◌, subst, ⊎_elim, inl, inr, length-append, arith}
use Rattle.std.specs.Prelude.{slice_index}
use Rattle.std.specs.Int.{bit_at}
use Rattle.std.proofs.lemmas.Bool.{cases_eq, cases_lt}
use Rattle.std.proofs.lemmas.Nat.Bits.{bit_at-zero, bit_at-lt}
use Rattle.std.proofs.Math.ListN.{get_or-append, get_or-eq_default}
use Rattle.std.proofs.Math.Seq.{get_or-append_seam}
use Rattle.cnf_core.specs.Literals.{Assignment, value_of}
use Rattle.cnf_core.specs.Formulas.{IsModel, IsAgainst}
use Rattle.board_core.specs.Subjects.{About, groups}
use Rattle.board_core.specs.Words.{open_at}
use Rattle.board_core.specs.Rules.{AreEarlier}
use Rattle.board_core.specs.declared.view.View.{View}
use Rattle.lrat_log.specs.Entries.{learnt_count}
use Rattle.lrat_log.specs.Laws.{learning_queries}
use Rattle.core_chunks.specs.Chunks.{open_count}
use Rattle.assumption_solver.specs.SolverStates.{SolverState}
use Rattle.candidate_words.specs.Seats.{Sitter}
use Rattle.flip_literals.specs.Critical.{MarksCritical}
use Rattle.model_check.specs.Flips.{flipped}
use Rattle.model_store.specs.Stores.{Store, model_at, with_model}
use Rattle.worker_loop.specs.declared.post.Post.{Post}
use Rattle.worker_loop.specs.declared.dropping.Flips.{Flips}
use Rattle.worker_loop.specs.declared.dropping.Flips.TheVariants.{None as NoFlips, Marked, Listed}
use Rattle.worker_loop.specs.Evidence.{IsKeeping, IsSettled, IsPaced}
use Rattle.worker_loop.specs.Steps.Held.{state_of, IsPost}
use Rattle.worker_loop.specs.Steps.Moves.{IsLoaded, HasLoadedAll, IsOnward, IsDropped, IsClosed}
use Rattle.worker_loop.specs.Steps.Dropping.{var_at, CanBeTried, IsSameButSeat, IsKept, HasDroppedIn, HasDroppedAll, IsKeepingAt}
use Rattle.worker_loop.proofs.Counts.{open_later, open_and_closed}
use Rattle.worker_loop.proofs.Onward.{seen_trans}
use Rattle.worker_loop.proofs.Tried.{stays_closed}

abbrev Copy : Type 0
Copy = Vec ℕ Global

-- what no step of dropping changes
pub stays_tried : (flips : Flips) (p q : Post) (m : Assignment) → IsOnward p q → IsSameButSeat p q → CanBeTried flips p m
    → CanBeTried flips q m
stays_tried NoFlips p q m onward rest none = λ x low is same flip.
    none x low (subst (λ (ws : List ℕ). open_at ws x ≡ 1) onward.copy is)
    (subst (λ (a : About). value_of m x ≡ value_of a.phases x) onward.question same)
    (subst (λ (a : About). IsModel a.formula (flipped m x)) onward.question flip)
stays_tried Marked p q m onward rest marked =
    subst (λ (a : About). MarksCritical a.formula m q.marks) (sym onward.question)
    (subst (λ (bs : List Bool). MarksCritical p.question.now.formula m bs) (sym rest.marks) marked)
stays_tried Listed p q m onward rest free = tt

pub same_but_seat_then : (p q r : Post) → IsSameButSeat p q → IsSameButSeat q r → IsSameButSeat p r
same_but_seat_then p q r one two = record {
  solver = two.solver ∙ one.solver;
  models = two.models ∙ one.models;
  marks = two.marks ∙ one.marks;
}

-- what a group's step has closed stays closed
pub stays_dropped : (p q r : Post) (m : Assignment) (g : ℕ) → IsOnward p q → IsOnward q r → g < groups p.question.now.formula.vars
    → HasDroppedIn p m g q → HasDroppedIn p m g r
stays_dropped p q r m g first second low dropped = λ i within is.
    ⊎_elim
    (λ (closed : IsClosed q (var_at g i)). inl
    (stays_closed p.question.now.formula.vars g i q.seat.view.seen r.seat.view.seen
    (subst (λ (a : About). AreEarlier (groups a.formula.vars) q.seat.view.seen r.seat.view.seen) first.question second.seen)
    low within closed))
    (λ (kept : IsKept p m (var_at g i)). inr kept)
    (dropped i within is)

-- a step from a later post, told from the earlier one
pub dropped_from : (p q r : Post) (m : Assignment) (g : ℕ) → IsOnward p q → HasDroppedIn q m g r → HasDroppedIn p m g r
dropped_from p q r m g onward dropped = λ i within is.
    ⊎_elim
    (λ (closed : IsClosed r (var_at g i)). inl closed)
    (λ (kept : IsKept q m (var_at g i)). inr (record {
      value = subst (λ (a : About). value_of m (var_at g i) ≡ value_of a.phases (var_at g i)) onward.question kept.value;
      critical = λ flip. kept.critical (subst (λ (a : About). IsModel a.formula (flipped m (var_at g i))) (sym onward.question) flip);
    }))
    (dropped i within (subst (λ (ws : List ℕ). open_at ws (var_at g i) ≡ 1) (sym onward.copy) is))

-- one group more
abbrev pub DroppedBelow : Post → Assignment → ℕ → Post → Type 0
DroppedBelow p m k q = (g : ℕ) → g < k → HasDroppedIn p m g q

pub dropped_next : (p q r : Post) (m : Assignment) (k : ℕ) → k < groups p.question.now.formula.vars → IsOnward p q → IsOnward q r
    → DroppedBelow p m k q → HasDroppedIn q m k r → DroppedBelow p m (k + 1) r
dropped_next p q r m k low first second below here = λ g under.
    ⊎_elim
    (λ (same : g ≡ k). subst (λ (h : ℕ). HasDroppedIn p m h r) (sym same) (dropped_from p q r m k first here))
    (λ (other : g ≢ k).
    let before : g < k = omega arith in
    stays_dropped p q r m g first second (omega arith) (below g before))
    (cases_eq g k)

-- a variable that is open is in a group
open_in_group : (ws : List ℕ) (n c : ℕ) → length ws ≡ groups n → open_at ws (suc c) ≡ 1 → c / 32 < groups n
open_in_group ws n c size is =
    ⊎_elim
    (λ (low : c / 32 < groups n). low)
    (λ (high : groups n ≤ c / 32).
    let past : slice_index ws (c / 32) ≡ 0 = get_or-eq_default ws 0 (omega arith) in
    let none : bit_at (slice_index ws (c / 32)) (c % 32) ≡ 0 = ap (λ (w : ℕ). bit_at w (c % 32)) past ∙ bit_at-zero (c % 32) in
    absurd (omega arith))
    (cases_lt (c / 32) (groups n))

-- each candidate that was open is closed, or the model keeps it
pub dropped_at : (p q : Post) (m : Assignment) (x : ℕ) → length p.loaded.items ≡ groups p.question.now.formula.vars → HasDroppedAll p m q
    → 0 < x → open_at p.loaded.items x ≡ 1 → IsClosed q x ⊎ IsKept p m x
dropped_at p q m x size dropped low is =
    let next : suc (x - 1) ≡ x = omega arith in
    let place : var_at ((x - 1) / 32) ((x - 1) % 32) ≡ x = omega arith in
    let there : open_at p.loaded.items (suc (x - 1)) ≡ 1 = subst (λ (y : ℕ). open_at p.loaded.items y ≡ 1) (sym next) is in
    subst (λ (y : ℕ). IsClosed q y ⊎ IsKept p m y) place
    (dropped ((x - 1) / 32) (open_in_group p.loaded.items p.question.now.formula.vars (x - 1) size there) ((x - 1) % 32) (omega arith)
    (subst (λ (y : ℕ). open_at p.loaded.items y ≡ 1) (sym place) is))

no_own_opposite : (b : Bool) → b ≡ not b → ⊥
no_own_opposite true e = cc
no_own_opposite false e = cc

pub is_dropped_from : (p r q : Post) (m : Assignment) → r.question.now ≡ p.question.now → r.loaded ≡ p.loaded
    → length r.loaded.items ≡ groups r.question.now.formula.vars → HasDroppedAll r m q → IsDropped p m q
is_dropped_from p r q m question copy size dropped = λ x low is opposite.
    ⊎_elim
    (λ (closed : IsClosed q x). closed)
    (λ (kept : IsKept r m x). absurd (no_own_opposite (value_of p.question.now.phases x)
    (sym (subst (λ (a : About). value_of m x ≡ value_of a.phases x) question kept.value) ∙ opposite)))
    (dropped_at r q m x size dropped low (subst (λ (ws : Copy). open_at ws.items x ≡ 1) (sym copy) is))

-- a variable that is still open was open
pub was_open : (n : ℕ) (was now : List ℕ) (x : ℕ) → length now ≡ groups n → AreEarlier (groups n) was now → 0 < x → open_at now x ≡ 1
    → open_at was x ≡ 1
was_open n was now x size later low is =
    let next : suc (x - 1) ≡ x = omega arith in
    let there : open_at now (suc (x - 1)) ≡ 1 = subst (λ (y : ℕ). open_at now y ≡ 1) (sym next) is in
    let both = later ((x - 1) / 32) (open_in_group now n (x - 1) size there) ((x - 1) % 32) (omega arith) in
    let small = bit_at-lt (slice_index was ((x - 1) / 32)) ((x - 1) % 32) in
    subst (λ (y : ℕ). open_at was y ≡ 1) next (omega (arith, there, both.0, both.1, small))

-- the same model at another place
keeping_same : (a : About) (s t : Store) (x place other : ℕ) → model_at t other ≡ model_at s place → IsKeeping a s x place
    → IsKeeping a t x other
keeping_same a s t x place other same keeping = record {
  by_value = λ against. keeping.by_value (subst (λ (m : Assignment). IsAgainst a.formula m x (value_of a.phases x)) same against);
  by_flip = λ against. keeping.by_flip (subst (λ (m : Assignment). IsAgainst a.formula (flipped m x) x (value_of a.phases x)) same against);
}

-- a model that keeps what is still seen open, behind those of a store
keeping_last : (a : About) (s t : Store) (m : Assignment) (x : ℕ) → t ≡ with_model s m → value_of m x ≡ value_of a.phases x
    → (IsModel a.formula (flipped m x) → ⊥) → IsKeeping a t x (length s.models)
keeping_last a s t m x more same critical =
    let here : model_at t (length s.models) ≡ m = ap (λ (r : Store). model_at r (length s.models)) more
    ∙ get_or-append_seam s.models m [] [] in
    record {
      by_value = λ against. no_own_opposite (value_of a.phases x)
          (sym same ∙ sym (ap (λ (b : Assignment). value_of b x) here) ∙ against.opposite);
      by_flip = λ against. critical (subst (λ (b : Assignment). IsModel a.formula (flipped b x)) here against.is_model);
    }

-- p stored a model, r is ready to try it, and q has tried it
pub absorbed_keeping : (p r q : Post) (m : Assignment) → r.question.now ≡ p.question.now → r.seat ≡ p.seat → r.loaded ≡ p.loaded
    → r.models ≡ with_model p.models m → IsLoaded p → IsPost r → IsPost q → IsOnward r q → IsSameButSeat r q → HasDroppedAll r m q
    → IsKeepingAt p.models q
absorbed_keeping p r q m question seat copy more copied ready done onward rest dropped = λ x low is.
    let copy_is : r.loaded.items ≡ q.seat.view.loaded =
    ap (λ (ws : Copy). ws.items) copy ∙ copied ∙ sym (ap (λ (s : Sitter). s.view.loaded) seat) ∙ sym onward.loaded in
    let was : open_at q.seat.view.loaded x ≡ 1 =
    was_open q.question.now.formula.vars q.seat.view.loaded q.seat.view.seen x done.view.seen.size done.view.loaded_seen low is in
    ⊎_elim
    (λ (closed : IsClosed q x). absurd (omega (arith, closed, is)))
    (λ (kept : IsKept r m x).
    keeping_last q.question.now p.models q.models m x (rest.models ∙ more)
    (subst (λ (a : About). value_of m x ≡ value_of a.phases x) (sym onward.question) kept.value)
    (λ flip. kept.critical (subst (λ (a : About). IsModel a.formula (flipped m x)) onward.question flip)))
    (dropped_at r q m x ready.loaded dropped low (subst (λ (ws : List ℕ). open_at ws x ≡ 1) (sym copy_is) was))

-- where all stored models were settled, they are
pub settled_more : (a : About) (v : View) (s : Store) (q : Post) (m : Assignment) → q.question.now ≡ a → q.models ≡ with_model s m
    → length q.seat.view.seen ≡ groups a.formula.vars → AreEarlier (groups a.formula.vars) v.seen q.seat.view.seen → IsKeepingAt s q
    → IsSettled a v s → IsSettled q.question.now q.seat.view q.models
settled_more a v s q m same more size later keeping settled = λ x place low is within.
    let count : length q.models.models ≡ length s.models + 1 = ap (λ (r : Store). length r.models) more ∙ length-append s.models (m ∷ []) in
    ⊎_elim
    (λ (old : place < length s.models).
    subst (λ (b : About). IsKeeping b q.models x place) (sym same)
    (keeping_same a s q.models x place place
    (ap (λ (r : Store). model_at r place) more ∙ get_or-append s.models (m ∷ []) [] place old)
    (settled x place low (was_open a.formula.vars v.seen q.seat.view.seen x size later low is) old)))
    (λ (new : length s.models ≤ place).
    let last : length s.models ≡ place = omega arith in
    subst (λ (k : ℕ). IsKeeping q.question.now q.models x k) last (keeping x low is))
    (cases_lt place (length s.models))

pub absorbed_settled : (p r q : Post) (m : Assignment) → r.question.now ≡ p.question.now → r.seat ≡ p.seat → r.loaded ≡ p.loaded
    → r.models ≡ with_model p.models m → IsLoaded p → IsPost r → IsPost q → IsOnward r q → IsSameButSeat r q → HasDroppedAll r m q
    → IsSettled p.question.now p.seat.view p.models → IsSettled q.question.now q.seat.view q.models
absorbed_settled p r q m question seat copy more copied ready done onward rest dropped settled =
    let same : q.question.now ≡ p.question.now = onward.question ∙ question in
    let later : AreEarlier (groups p.question.now.formula.vars) p.seat.view.seen q.seat.view.seen =
    subst (λ (a : About). AreEarlier (groups a.formula.vars) p.seat.view.seen q.seat.view.seen) question
    (subst (λ (s : Sitter). AreEarlier (groups r.question.now.formula.vars) s.view.seen q.seat.view.seen) seat onward.seen) in
    settled_more p.question.now p.seat.view p.models q m same (rest.models ∙ more)
    (done.view.seen.size ∙ ap (λ (a : About). groups a.formula.vars) same) later
    (absorbed_keeping p r q m question seat copy more copied ready done onward rest dropped) settled

-- loads close candidates alone, so what was settled is
pub loaded_settled : (p q : Post) → IsPost q → HasLoadedAll p q → IsSettled p.question.now p.seat.view p.models
    → IsSettled q.question.now q.seat.view q.models
loaded_settled p q done loaded settled = λ x place low is within.
    let later : AreEarlier (groups p.question.now.formula.vars) p.seat.view.seen q.seat.view.seen =
    subst (λ (ws : List ℕ). AreEarlier (groups p.question.now.formula.vars) p.seat.view.seen ws) (sym loaded.seen) loaded.later in
    let size : length q.seat.view.seen ≡ groups p.question.now.formula.vars =
    done.view.seen.size ∙ ap (λ (a : About). groups a.formula.vars) loaded.question in
    let count : length q.models.models ≡ length p.models.models = ap (λ (s : Store). length s.models) loaded.models in
    subst (λ (a : About). IsKeeping a q.models x place) (sym loaded.question)
    (subst (λ (s : Store). IsKeeping p.question.now s x place) (sym loaded.models)
    (settled x place low (was_open p.question.now.formula.vars p.seat.view.seen q.seat.view.seen x size later low is)
    (omega (arith, within, count))))

-- a turn's pace, after loads and a model
pub absorbed_paced : (p q r : Post) → HasLoadedAll p q → IsOnward q r → r.solver ≡ q.solver → IsPaced (state_of p) → IsPaced (state_of r)
absorbed_paced p q r loaded onward solver paced =
    let log : r.solver.log.entries ≡ p.solver.log.entries = ap (λ (s : SolverState). s.log.entries) (solver ∙ loaded.solver) in
    let about : r.question.now ≡ p.question.now = onward.question ∙ loaded.question in
    let vars : r.question.now.formula.vars ≡ p.question.now.formula.vars = ap (λ (a : About). a.formula.vars) about in
    let budget : r.budget ≡ p.budget = onward.budget ∙ loaded.budget in
    let first : AreEarlier (groups p.question.now.formula.vars) p.seat.view.seen q.seat.view.seen =
    subst (λ (ws : List ℕ). AreEarlier (groups p.question.now.formula.vars) p.seat.view.seen ws) (sym loaded.seen) loaded.later in
    let later : AreEarlier (groups p.question.now.formula.vars) p.seat.view.seen r.seat.view.seen =
    seen_trans (groups p.question.now.formula.vars) p.seat.view.seen q.seat.view.seen r.seat.view.seen first
    (subst (λ (a : About). AreEarlier (groups a.formula.vars) q.seat.view.seen r.seat.view.seen) loaded.question onward.seen) in
    let parts = open_and_closed p.seat.view.seen r.seat.view.seen p.question.now.formula.vars
    (open_later p.question.now.formula.vars p.seat.view.seen r.seat.view.seen later) in
    let count : open_count r.seat.view.seen r.question.now.formula.vars ≡ open_count r.seat.view.seen p.question.now.formula.vars =
    ap (open_count r.seat.view.seen) vars in
    let queries : learning_queries r.solver.log.entries ≡ learning_queries p.solver.log.entries = ap learning_queries log in
    let learnt : learnt_count r.solver.log.entries ≡ learnt_count p.solver.log.entries = ap learnt_count log in
    ⊎_elim
    (λ (slow : learning_queries p.solver.log.entries + 2 * open_count p.seat.view.seen
    p.question.now.formula.vars ≤ 2 * p.question.now.formula.vars + 1).
    inl (omega (arith, slow, parts, count, queries, vars)))
    (λ (spent : (learnt_count p.solver.log.entries ≡ p.budget) × (learning_queries
    p.solver.log.entries ≤ 2 * (p.question.now.formula.vars + 1))).
    inr (learnt ∙ spent.0 ∙ sym budget, omega (arith, spent.1, queries, vars)))
    paced
