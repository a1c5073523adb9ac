-- What holds over a whole turn.
use Rattle.std.proofs.Common.{◌≡◌, ℕ, zero, suc, ◌+◌, ◌-◌, ◌*◌, ◌/◌, ◌%◌, ◌<◌, ◌≤◌, Bool, cond, List, ◌++◌, sym, ap, ◌∙◌, subst, inl, inr, ⊎_elim, arith}
use Rattle.std.specs.Prelude.{slice_index}
use Rattle.std.proofs.lemmas.Bool.{cases_lt}
use Rattle.std.proofs.lemmas.List.Sums.{sum_by-append}
use Rattle.std.proofs.lemmas.List.Elements.{All-weaker}
use Rattle.std.proofs.lemmas.Nat.Bits.{bit_at-lt}
use Rattle.lrat_log.specs.Entries.{Entry, Recorded, is_learnt_entry, learnt_count}
use Rattle.lrat_log.specs.Laws.{learning_queries}
use Rattle.board_core.specs.Subjects.{About, groups}
use Rattle.board_core.specs.Words.{Earlier, fixed, open_at}
use Rattle.board_core.specs.Rules.{AreEarlier, AreWords}
use Rattle.board_core.specs.declared.view.View.{View}
use Rattle.board_core.specs.declared.view.Stamped.{Stamped}
use Rattle.model_store.specs.Stores.{Store}
use Rattle.core_chunks.specs.Chunks.{open_count}
use Rattle.worker_loop.specs.Posts.{PostState, IsLonger, IsLater}
use Rattle.worker_loop.specs.Evidence.{IsSettled, IsPaced}
use Rattle.worker_loop.specs.Steps.Moves.{IsLoaded, IsOnward, IsHearing, HasLoadedAll, HasHeard, HasTaken, IsAskedTimes, IsUnmoved}
use Rattle.worker_loop.proofs.Blocks.{open-le-one}
use Rattle.worker_loop.proofs.Counts.{open_later}
use Rattle.worker_loop.proofs.Words.{none_past}
use Rattle.cnf_core.specs.Formulas.{true_literal}
use Rattle.board_core.proofs.Steps.{earlier_refl}
use Rattle.candidate_words.specs.Seats.{Sitter}
use Rattle.assumption_solver.specs.SolverStates.{SolverState}
use Rattle.assumption_solver.specs.Units.{HasUnit}
use Rattle.worker_loop.specs.declared.post.Post.{Post}
use Rattle.worker_loop.specs.Turns.{Heard, AreTaken, IsWorked}
use Rattle.worker_loop.specs.Steps.Held.{state_of}
use Rattle.worker_loop.proofs.Grown.{unit_longer}
use Rattle.worker_loop.proofs.Onward.{longer_same, longer_trans, seen_trans, onward_hearing, hearing_trans}

abbrev mark : Bool → ℕ
mark b = cond b 1 0

-- a longer log has learnt no less
pub learnt_longer : (L M : Recorded) → IsLonger L M → learnt_count L.entries ≤ learnt_count M.entries
learnt_longer L M longer =
    omega (arith, ap learnt_count longer.entries, sum_by-append (λ (e : Entry). mark (is_learnt_entry e)) L.entries longer.more)

-- fewer are open where what is seen is later
pub count_later : (n m : ℕ) (was now : List ℕ) → m ≤ n → AreEarlier (groups n) was now → open_count now m ≤ open_count was m
unfolding open_count
count_later n zero was now low later = omega arith
count_later n (suc m) was now low later =
    omega (arith, count_later n m was now (omega arith) later, open_later n was now later (suc m) low)

-- what was settled stays so
pub settled_later : (a : About) (v u : View) (s : Store) → AreWords a u.seen → AreEarlier (groups a.formula.vars) v.seen u.seen
    → IsSettled a v s → IsSettled a u s
settled_later a v u s words later settled x place low is_open within =
    let high : x ≤ a.formula.vars =
    ⊎_elim (λ (past : a.formula.vars < x). absurd (omega (arith, none_past a u.seen words x past, is_open))) (λ (h : x ≤ a.formula.vars). h) (cases_lt a.formula.vars x) in
    let less : open_at u.seen x ≤ open_at v.seen x = open_later a.formula.vars v.seen u.seen later x high in
    let one : open_at v.seen x ≤ 1 = open-le-one v.seen x in
    settled x place low (omega arith) within

-- a fixed variable stays fixed
pub fixed_later : (n : ℕ) (was now : List ℕ) → AreEarlier (groups n) was now → (x : ℕ) → x ≤ n → fixed was x ≡ 1 → fixed now x ≡ 1
fixed_later n was now later zero low is = absurd (omega (arith, is))
fixed_later n was now later (suc c) low is =
    let both = later (c / 32) (omega arith) (c % 32) (omega arith) in
    omega (arith, both.1, is, bit_at-lt (slice_index now (c / 32)) (32 + c % 32))

-- the pace after steps that asked so often and closed enough
pub paced_by : (p q : PostState) (k : ℕ) → q.about ≡ p.about → q.budget ≡ p.budget → IsAskedTimes k p.log q.log
    → learnt_count p.log.entries ≤ learnt_count q.log.entries → learnt_count q.log.entries ≤ q.budget
    → 2 * open_count q.seat.view.seen p.about.formula.vars + k ≤ 2 * open_count p.seat.view.seen p.about.formula.vars → IsPaced p → IsPaced q
paced_by p q k about budget asked more few closed paced =
    let vars : q.about.formula.vars ≡ p.about.formula.vars = ap (λ (a : About). a.formula.vars) about in
    let l : ℕ = learning_queries p.log.entries in
    let m : ℕ = learning_queries q.log.entries in
    let most : m ≤ l + k = asked.most in
    ⊎_elim
    (λ (fast : l + 2 * open_count p.seat.view.seen p.about.formula.vars ≤ 2 * p.about.formula.vars + 1).
    inl (subst (λ (n : ℕ). m + 2 * open_count q.seat.view.seen n ≤ 2 * n + 1) (sym vars) (omega arith)))
    (λ (spent : (learnt_count p.log.entries ≡ p.budget) × (l ≤ 2 * (p.about.formula.vars + 1))). inr (spent_stays p q k vars budget asked more few spent))
    paced
  where
    spent_stays : (p q : PostState) (k : ℕ) → q.about.formula.vars ≡ p.about.formula.vars → q.budget ≡ p.budget → IsAskedTimes k p.log q.log
        → learnt_count p.log.entries ≤ learnt_count q.log.entries → learnt_count q.log.entries ≤ q.budget
        → ((learnt_count p.log.entries ≡ p.budget) × (learning_queries p.log.entries ≤ 2 * (p.about.formula.vars + 1)))
        → ((learnt_count q.log.entries ≡ q.budget) × (learning_queries q.log.entries ≤ 2 * (q.about.formula.vars + 1)))
    spent_stays p q k vars budget asked more few (all, low) =
        let same : learnt_count q.log.entries ≡ learnt_count p.log.entries = omega arith in
        (omega arith, omega (arith, asked.none same))

-- and after a turn that spent the budget, where a candidate was open
pub paced_spent : (p q : PostState) → q.about ≡ p.about → q.budget ≡ p.budget → IsAskedTimes 2 p.log q.log
    → learnt_count p.log.entries ≤ learnt_count q.log.entries → learnt_count q.log.entries ≡ q.budget
    → 0 < open_count p.seat.view.seen p.about.formula.vars → IsPaced p → IsPaced q
paced_spent p q about budget asked more spent some paced =
    let vars : q.about.formula.vars ≡ p.about.formula.vars = ap (λ (a : About). a.formula.vars) about in
    let most : learning_queries q.log.entries ≤ learning_queries p.log.entries + 2 = asked.most in
    inr (
      spent,
      ⊎_elim
          (λ (fast : learning_queries p.log.entries + 2 * open_count p.seat.view.seen p.about.formula.vars ≤ 2 * p.about.formula.vars + 1). omega arith)
          (λ (slow : (learnt_count p.log.entries ≡ p.budget) × (learning_queries p.log.entries ≤ 2 * (p.about.formula.vars + 1))).
          let same : learnt_count q.log.entries ≡ learnt_count p.log.entries = omega (arith, slow.0) in
          omega (arith, slow.1, asked.none same))
          paced,
    )

-- nothing moved, so it is onward
pub unmoved_onward : (p q : Post) → IsUnmoved p q → IsOnward p q
unmoved_onward p q same = record {
  question = same.question;
  table = ap (λ (s : Sitter). s.table) same.seat;
  number = ap (λ (s : Sitter). s.view.number) same.seat;
  next = ap (λ (s : Sitter). s.view.next) same.seat;
  out = ap (λ (s : Sitter). s.view.out) same.seat;
  loaded = ap (λ (s : Sitter). s.view.loaded) same.seat;
  loads = ap (λ (s : Sitter). s.view.loads) same.seat;
  copy = same.copy;
  seen = λ g low. subst (λ (s : Sitter). Earlier (slice_index p.seat.view.seen g) (slice_index s.view.seen g)) (sym same.seat) (earlier_refl (slice_index p.seat.view.seen g));
  looks = λ x. subst (λ (s : Sitter). slice_index p.seat.view.looks x ≤ slice_index s.view.looks x) (sym same.seat) (omega arith);
  imports = ap (λ (s : Sitter). s.view.imports) same.seat;
  log = longer_same p.solver.log q.solver.log (ap (λ (s : SolverState). s.log) same.solver);
  budget = same.budget;
}

-- the loads and what followed
pub loaded_later : (p q r : Post) → HasLoadedAll p q → IsHearing q r → IsLater (state_of p) (state_of r)
loaded_later p q r loads onward =
    let vars : q.question.now.formula.vars ≡ p.question.now.formula.vars = ap (λ (a : About). a.formula.vars) loads.question in
    let seen : AreEarlier (groups p.question.now.formula.vars) q.seat.view.seen r.seat.view.seen =
    subst (λ (n : ℕ). AreEarlier (groups n) q.seat.view.seen r.seat.view.seen) vars onward.seen in
    let first : AreEarlier (groups p.question.now.formula.vars) p.seat.view.seen q.seat.view.seen =
    subst (λ (ws : List ℕ). AreEarlier (groups p.question.now.formula.vars) p.seat.view.seen ws) (sym loads.seen) loads.later in
    record {
      about = onward.question ∙ loads.question;
      table = onward.table ∙ loads.table;
      number = onward.number ∙ loads.number;
      next = onward.next ∙ loads.next;
      out = onward.out ∙ loads.out;
      seen = seen_trans (groups p.question.now.formula.vars) p.seat.view.seen q.seat.view.seen r.seat.view.seen first seen;
      log = longer_trans p.solver.log q.solver.log r.solver.log (longer_same p.solver.log q.solver.log (ap (λ (s : SolverState). s.log) loads.solver)) onward.log;
      budget = onward.budget ∙ loads.budget;
    }

-- what was fixed when the turn began was heard of
heard_of : (p q r s : Post) → HasLoadedAll p q → IsLoaded q → IsUnmoved q r → HasHeard r s → (t : Post) → IsOnward s t
    → Heard (state_of p) (state_of t)
heard_of p q r s loads copied same heard t onward x low high is =
    let n : ℕ = p.question.now.formula.vars in
    let now : fixed q.seat.view.loaded x ≡ 1 = fixed_later n p.seat.view.seen q.seat.view.loaded loads.later x high is in
    let there : fixed r.loaded.items x ≡ 1 = subst (λ (ws : List ℕ). fixed ws x ≡ 1) (sym (same.copy ∙ copied)) now in
    let about : r.question.now ≡ p.question.now = same.question ∙ loads.question in
    let within : x ≤ r.question.now.formula.vars = omega (arith, high, ap (λ (a : About). a.formula.vars) about) in
    let looks : r.seat.view.looks ≡ p.seat.view.looks = ap (λ (u : Sitter). u.view.looks) same.seat ∙ loads.looks in
    let before : slice_index r.seat.view.looks (x - 1) ≡ slice_index p.seat.view.looks (x - 1) = ap (λ (ks : List ℕ). slice_index ks (x - 1)) looks in
    ⊎_elim
    (λ (root : HasUnit s.solver.log (true_literal r.question.now.phases x)).
    inl (unit_longer s.solver.log t.solver.log (true_literal p.question.now.phases x) onward.log
    (subst (λ (a : About). HasUnit s.solver.log (true_literal a.phases x)) about root)))
    (λ (looked : slice_index r.seat.view.looks (x - 1) < slice_index s.seat.view.looks (x - 1)). inr (omega (arith, before, looked, onward.looks (x - 1))))
    (heard x low within there)

-- what was found when the others were heard is taken at the turn's end
taken_of : (p q r s t : Post) → HasLoadedAll p q → IsUnmoved q r → HasTaken r s → IsOnward s t
    → AreTaken p.question.now p.seat.view t.seat.view t.solver.log
taken_of p q r s t loads same taken onward =
    let before : r.seat.view.imports ≡ p.seat.view.imports = ap (λ (u : Sitter). u.view.imports) same.seat ∙ loads.imports in
    let about : r.question.now ≡ p.question.now = same.question ∙ loads.question in
    record {
      found = taken.found;
      imports = onward.imports ∙ taken.imports ∙ ap (λ (ps : List Stamped). ps ++ taken.found) before;
      units = All-weaker (λ (e : Stamped). HasUnit s.solver.log (true_literal r.question.now.phases e.var))
          (λ (e : Stamped). HasUnit t.solver.log (true_literal p.question.now.phases e.var))
          (λ e unit. unit_longer s.solver.log t.solver.log (true_literal p.question.now.phases e.var) onward.log
          (subst (λ (a : About). HasUnit s.solver.log (true_literal a.phases e.var)) about unit))
          taken.found taken.units;
    }

-- a turn that had something to do
pub worked_of : (p q r s t : Post) → HasLoadedAll p q → IsLoaded q → IsUnmoved q r → IsHearing r s → HasHeard r s → HasTaken r s
    → IsOnward s t
    → 0 < open_count q.loaded.items q.question.now.formula.vars → IsWorked (state_of p) (state_of t)
worked_of p q r s t loads copied same first heard taken onward some =
    let n : ℕ = p.question.now.formula.vars in
    let all : IsHearing q t = hearing_trans q r t (onward_hearing q r (unmoved_onward q r same))
    (hearing_trans r s t first (onward_hearing s t onward)) in
    let vars : q.question.now.formula.vars ≡ n = ap (λ (a : About). a.formula.vars) loads.question in
    let words : t.seat.view.loaded ≡ q.seat.view.loaded = all.loaded in
    record {
      once = λ g low. ap (λ (ks : List ℕ). slice_index ks g) all.loads ∙ loads.once g low;
      after = subst (λ (ws : List ℕ). AreEarlier (groups n) p.seat.view.seen ws) (sym words) loads.later;
      some_open = subst (λ (ws : List ℕ). 0 < open_count ws n) (copied ∙ sym words) (subst (λ (m : ℕ). 0 < open_count q.loaded.items m) vars some);
      heard = heard_of p q r s loads copied same heard t onward;
      taken = taken_of p q r s t loads same taken onward;
    }

-- what was open when the turn began, and what is at its end
pub open_less : (p q : Post) (r : Post) → HasLoadedAll p q → IsHearing q r → open_count r.seat.view.loaded p.question.now.formula.vars
    ≤ open_count p.seat.view.seen p.question.now.formula.vars
open_less p q r loads onward =
    subst (λ (ws : List ℕ). open_count ws p.question.now.formula.vars ≤ open_count p.seat.view.seen p.question.now.formula.vars) (sym onward.loaded)
    (count_later p.question.now.formula.vars p.question.now.formula.vars p.seat.view.seen q.seat.view.loaded (omega arith) loads.later)
