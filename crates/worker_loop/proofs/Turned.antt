-- A turn whose words showed something open, from its start to its end.
use Rattle.std.proofs.Common.{inr, ◌≡◌, ℕ, zero, suc, inl, ◌+◌, ◌*◌, ◌<◌, ◌≤◌, Result, Ok, Err, List, length, sym, ap, ◌∙◌, subst, arith, ⊎_elim, ◌⊎◌}
use Rattle.std.specs.Prelude.{Option, Some, None, IfOk, OnOk, IfSome, IfNone}
use Rattle.cnf_core.specs.declared.memory.NoMemory.{NoMemory}
use Rattle.lrat_log.specs.Entries.{Recorded, learnt_count}
use Rattle.lrat_log.specs.Laws.{learning_queries}
use Rattle.board_core.specs.Subjects.{About, groups}
use Rattle.board_core.specs.Rules.{AreEarlier, AreWords}
use Rattle.candidate_words.specs.Seats.{Sitter}
use Rattle.model_store.specs.Stores.{Store}
use Rattle.core_chunks.specs.Chunks.{open_count, IsBlockOf}
use Rattle.assumption_solver.specs.SolverStates.{SolverState}
use Rattle.worker_loop.specs.declared.endings.TurnEnd.{TurnEnd}
use Rattle.worker_loop.specs.declared.endings.TurnEnd.TheVariants.{Going, Done, Spent, Memory}
use Rattle.worker_loop.specs.declared.post.Post.{Post}
use Rattle.worker_loop.specs.Posts.{IsLater}
use Rattle.worker_loop.specs.Evidence.{IsSettled, IsPaced}
use Rattle.worker_loop.specs.Turns.{closed_count, Goes, IsWorked}
use Rattle.worker_loop.specs.Steps.Held.{IsPost, IsBetweenTurns, state_of}
use Rattle.worker_loop.specs.Steps.Moves.{IsLoaded, IsOnward, IsHearing, HasLoadedAll, HasHeard, HasTaken, IsAskedTimes, IsUnmoved, KeepsSettled, IsInVain, IsAffordable, IsGivenUp}
use Rattle.worker_loop.specs.Steps.Following.{Follows, PostSays}
use Rattle.worker_loop.proofs.Counts.{open_later, open_and_closed}
use Rattle.worker_loop.proofs.Queries.{asked_after, asked_same}
use Rattle.worker_loop.proofs.Onward.{onward_hearing, hearing_trans}
use Rattle.worker_loop.proofs.Settling.{settled_onward, settled_hearing}
use Rattle.worker_loop.proofs.Turning.{learnt_longer, count_later, settled_later, paced_by, paced_spent, unmoved_onward, loaded_later, worked_of, open_less}

-- p loaded all words and so became q; its next block was set (r); it heard of the others (s); and it worked (t)
pub record HasTurned (p q r s t : Post) : Type 0 where
  pub loads : HasLoadedAll p q
  pub copied : IsLoaded q
  pub post_q : IsPost q
  pub same : IsUnmoved q r
  pub post_r : IsPost r
  pub hearing : IsHearing r s
  pub heard : HasHeard r s
  pub taken : HasTaken r s
  pub asked_s : IsAskedTimes 0 r.solver.log s.solver.log
  pub models_s : s.models ≡ r.models
  pub post_s : IsPost s
  pub working : IsOnward s t
  pub asked_t : IsAskedTimes 2 s.solver.log t.solver.log
  pub post_t : IsPost t
  pub some : 0 < open_count q.loaded.items q.question.now.formula.vars

all_onward : (p q r s t : Post) → HasTurned p q r s t → IsHearing q t
all_onward p q r s t is =
    hearing_trans q r t (onward_hearing q r (unmoved_onward q r is.same)) (hearing_trans r s t is.hearing (onward_hearing s t is.working))

pub turn_later : (p q r s t : Post) → HasTurned p q r s t → IsLater (state_of p) (state_of t)
turn_later p q r s t is = loaded_later p q t is.loads (all_onward p q r s t is)

pub turn_worked : (p q r s t : Post) → HasTurned p q r s t → IsWorked (state_of p) (state_of t)
turn_worked p q r s t is = worked_of p q r s t is.loads is.copied is.same is.hearing is.heard is.taken is.working is.some

-- what the turn says by its end
says_by : (p q r s t : Post) (end : TurnEnd) → HasTurned p q r s t → Follows end t → PostSays end (state_of p) (state_of t)
says_by p q r s t Going is follows = (turn_worked p q r s t is, follows)
says_by p q r s t Done is follows = absurd follows
says_by p q r s t Spent is follows = (turn_worked p q r s t is, follows)
says_by p q r s t Memory is follows = absurd follows

pub turn_says : (p q r s t : Post) (res : Result TurnEnd NoMemory) → HasTurned p q r s t → IfOk res (λ end. Follows end t)
    → IfOk res (λ end. PostSays end (state_of p) (state_of t))
turn_says p q r s t (Ok end) is follows = says_by p q r s t end is follows
turn_says p q r s t (Err e) is follows = follows

-- the loads keep what was settled
pub settled_loads : (p q : Post) → HasLoadedAll p q → IsPost q → IsSettled p.question.now p.seat.view p.models → IsSettled q.question.now q.seat.view q.models
settled_loads p q loads post settled =
    let words : AreWords p.question.now q.seat.view.seen = subst (λ (a : About). AreWords a q.seat.view.seen) loads.question post.view.seen in
    let later : AreEarlier (groups p.question.now.formula.vars) p.seat.view.seen q.seat.view.seen =
    subst (λ (ws : List ℕ). AreEarlier (groups p.question.now.formula.vars) p.seat.view.seen ws) (sym loads.seen) loads.later in
    subst (λ (a : About). IsSettled a q.seat.view q.models) (sym loads.question)
    (subst (λ (u : Store). IsSettled p.question.now q.seat.view u) (sym loads.models)
    (settled_later p.question.now p.seat.view q.seat.view p.models words later settled))

asked_all : (p q r s t : Post) → HasTurned p q r s t → IsAskedTimes 2 p.solver.log t.solver.log
asked_all p q r s t is =
    let same : r.solver ≡ p.solver = is.same.solver ∙ is.loads.solver in
    subst (λ (u : SolverState). IsAskedTimes 2 u.log t.solver.log) same
    (asked_after 0 2 r.solver.log s.solver.log t.solver.log (learnt_longer r.solver.log s.solver.log is.hearing.log) (learnt_longer s.solver.log t.solver.log is.working.log)
    is.asked_s is.asked_t)

-- what a turn that goes on has closed
closes : (p q t : Post) → HasLoadedAll p q → IsHearing q t → IsPost t → Goes (state_of t)
    → 2 * open_count t.seat.view.seen p.question.now.formula.vars + 2 ≤ 2 * open_count p.seat.view.seen p.question.now.formula.vars
closes p q t loads onward post goes =
    let n : ℕ = p.question.now.formula.vars in
    let vars : t.question.now.formula.vars ≡ n = ap (λ (a : About). a.formula.vars) (onward.question ∙ loads.question) in
    let later : AreEarlier (groups n) t.seat.view.loaded t.seat.view.seen = subst (λ (m : ℕ). AreEarlier (groups m) t.seat.view.loaded t.seat.view.seen) vars post.view.loaded_seen in
    let sum : open_count t.seat.view.seen n + closed_count t.seat.view.loaded t.seat.view.seen n ≡ open_count t.seat.view.loaded n =
    open_and_closed t.seat.view.loaded t.seat.view.seen n (open_later n t.seat.view.loaded t.seat.view.seen later) in
    let some : 0 < closed_count t.seat.view.loaded t.seat.view.seen n =
    subst (λ (m : ℕ). 0 < closed_count t.seat.view.loaded t.seat.view.seen m) vars goes.some in
    omega (arith, open_less p q t loads onward, sum, some)

paced_end : (p q r s t : Post) (end : TurnEnd) → HasTurned p q r s t → Follows end t → IsPaced (state_of p) → IsPaced (state_of t)
paced_end p q r s t Going is follows paced =
    let later = turn_later p q r s t is in
    paced_by (state_of p) (state_of t) 2 later.about later.budget (asked_all p q r s t is) (learnt_longer p.solver.log t.solver.log later.log) is.post_t.few
    (closes p q t is.loads (all_onward p q r s t is) is.post_t follows) paced
paced_end p q r s t Done is follows paced = absurd follows
paced_end p q r s t Spent is follows paced =
    let later = turn_later p q r s t is in
    let n : ℕ = p.question.now.formula.vars in
    let vars : q.question.now.formula.vars ≡ n = ap (λ (a : About). a.formula.vars) is.loads.question in
    let words : 0 < open_count q.seat.view.loaded n =
    subst (λ (m : ℕ). 0 < open_count q.seat.view.loaded m) vars (subst (λ (ws : List ℕ). 0 < open_count ws q.question.now.formula.vars) is.copied is.some) in
    let before : open_count q.seat.view.loaded n ≤ open_count p.seat.view.seen n = count_later n n p.seat.view.seen q.seat.view.loaded (omega arith) is.loads.later in
    paced_spent (state_of p) (state_of t) later.about later.budget (asked_all p q r s t is) (learnt_longer p.solver.log t.solver.log later.log) follows (omega arith) paced
paced_end p q r s t Memory is follows paced = absurd follows

settled_end : (p q r s t : Post) → HasTurned p q r s t → KeepsSettled s t
    → IsSettled p.question.now p.seat.view p.models → IsSettled t.question.now t.seat.view t.models
settled_end p q r s t is keeps settled =
    keeps (settled_hearing r s is.post_s is.hearing is.models_s
    (settled_onward q r is.post_r (unmoved_onward q r is.same) is.same.models (settled_loads p q is.loads is.post_q settled)))

end_between : (p q r s t : Post) (end : TurnEnd) → HasTurned p q r s t → Follows end t → KeepsSettled s t
    → IsBetweenTurns (state_of p) → IsBetweenTurns (state_of t)
end_between p q r s t end is follows keeps between = record {
  settled = settled_end p q r s t is keeps between.settled;
  paced = paced_end p q r s t end is follows between.paced;
}

-- a query that was given up is paid for, or learnt nothing
vain_paced : (p q r s t : Post) → HasTurned p q r s t → IsGivenUp s t → IsPaced (state_of p) → IsPaced (state_of t)
vain_paced p q r s t is given paced =
    ⊎_elim (λ (none : IsAskedTimes 0 s.solver.log t.solver.log). unlearnt p q r s t is none paced)
    (λ (paid : learning_queries t.solver.log.entries + 2 * open_count s.loaded.items s.question.now.formula.vars ≤ 2 * s.question.now.formula.vars + 1).
    inl (all_paid p q r s t is paid))
    given.paid
  where
    unlearnt : (p q r s t : Post) → HasTurned p q r s t → IsAskedTimes 0 s.solver.log t.solver.log → IsPaced (state_of p) → IsPaced (state_of t)
    unlearnt p q r s t is none paced =
        let later = turn_later p q r s t is in
        let n : ℕ = p.question.now.formula.vars in
        paced_by (state_of p) (state_of t) 0 later.about later.budget
        (subst (λ (u : SolverState). IsAskedTimes 0 u.log t.solver.log) (is.same.solver ∙ is.loads.solver)
        (asked_after 0 0 r.solver.log s.solver.log t.solver.log (learnt_longer r.solver.log s.solver.log is.hearing.log)
        (learnt_longer s.solver.log t.solver.log is.working.log) is.asked_s none))
        (learnt_longer p.solver.log t.solver.log later.log) is.post_t.few
        (omega (arith, count_later n n p.seat.view.seen t.seat.view.seen (omega arith) later.seen)) paced

    all_paid : (p q r s t : Post) → HasTurned p q r s t
        → learning_queries t.solver.log.entries + 2 * open_count s.loaded.items s.question.now.formula.vars ≤ 2 * s.question.now.formula.vars + 1
        → learning_queries t.solver.log.entries + 2 * open_count t.seat.view.seen t.question.now.formula.vars ≤ 2 * t.question.now.formula.vars + 1
    all_paid p q r s t is paid =
        let n : ℕ = s.question.now.formula.vars in
        let vars : t.question.now.formula.vars ≡ n = ap (λ (a : About). a.formula.vars) is.working.question in
        let words : s.loaded.items ≡ t.seat.view.loaded = is.hearing.copy ∙ is.same.copy ∙ is.copied
        ∙ sym (is.working.loaded ∙ is.hearing.loaded ∙ ap (λ (u : Sitter). u.view.loaded) is.same.seat) in
        let later : AreEarlier (groups n) t.seat.view.loaded t.seat.view.seen =
        subst (λ (m : ℕ). AreEarlier (groups m) t.seat.view.loaded t.seat.view.seen) vars is.post_t.view.loaded_seen in
        let less : open_count t.seat.view.seen n ≤ open_count s.loaded.items n =
        subst (λ (ws : List ℕ). open_count t.seat.view.seen n ≤ open_count ws n) (sym words)
        (count_later n n t.seat.view.loaded t.seat.view.seen (omega arith) later) in
        subst (λ (m : ℕ). learning_queries t.solver.log.entries + 2 * open_count t.seat.view.seen m ≤ 2 * m + 1) (sym vars) (omega (arith, paid, less))

vain_between : (p q r s t : Post) → HasTurned p q r s t → IsGivenUp s t → KeepsSettled s t → IsBetweenTurns (state_of p)
    → IsBetweenTurns (state_of t)
vain_between p q r s t is given keeps between = record {
  settled = settled_end p q r s t is keeps between.settled;
  paced = vain_paced p q r s t is given between.paced;
}

pub tried_says : (p q r s t : Post) (res : Result (Option TurnEnd) NoMemory) → HasTurned p q r s t
    → IfOk res (λ tried. IfSome tried (λ end. Follows end t))
    → IfOk res (λ tried. IfSome tried (λ end. PostSays end (state_of p) (state_of t)))
tried_says p q r s t (Ok (Some end)) is follows = says_by p q r s t end is follows
tried_says p q r s t (Ok None) is follows = follows
tried_says p q r s t (Err e) is follows = follows

pub tried_between : (p q r s t : Post) (res : Result (Option TurnEnd) NoMemory) → HasTurned p q r s t
    → IfOk res (λ tried. IfSome tried (λ end. Follows end t)) → IfOk res (λ tried. IfNone tried (IsGivenUp s t))
    → OnOk res (KeepsSettled s t) → OnOk res (IsBetweenTurns (state_of p) → IsBetweenTurns (state_of t))
tried_between p q r s t (Ok (Some end)) is follows given keeps = end_between p q r s t end is follows keeps
tried_between p q r s t (Ok None) is follows given keeps = vain_between p q r s t is given keeps
tried_between p q r s t (Err e) is follows given keeps = keeps

pub turn_between : (p q r s t : Post) (res : Result TurnEnd NoMemory) → HasTurned p q r s t → IfOk res (λ end. Follows end t)
    → OnOk res (KeepsSettled s t) → OnOk res (IsBetweenTurns (state_of p) → IsBetweenTurns (state_of t))
turn_between p q r s t (Ok end) is follows keeps = end_between p q r s t end is follows keeps
turn_between p q r s t (Err e) is follows keeps = keeps

-- where nothing was open, all stays settled and paced
pub done_between : (p q : Post) → HasLoadedAll p q → IsPost q → IsBetweenTurns (state_of p) → IsBetweenTurns (state_of q)
done_between p q loads post between =
    let n : ℕ = p.question.now.formula.vars in
    let less : open_count q.seat.view.loaded n ≤ open_count p.seat.view.seen n = count_later n n p.seat.view.seen q.seat.view.loaded (omega arith) loads.later in
    let now : open_count q.seat.view.seen n ≡ open_count q.seat.view.loaded n = ap (λ (ws : List ℕ). open_count ws n) loads.seen in
    let log : q.solver.log ≡ p.solver.log = ap (λ (u : SolverState). u.log) loads.solver in
    let count : learnt_count q.solver.log.entries ≡ learnt_count p.solver.log.entries = ap (λ (L : Recorded). learnt_count L.entries) log in
    record {
      settled = settled_loads p q loads post between.settled;
      paced = paced_by (state_of p) (state_of q) 0 loads.question loads.budget (asked_same p.solver.log q.solver.log (ap (λ (L : Recorded). L.entries) log))
          (omega (arith, count)) post.few (omega arith) between.paced;
    }

-- all of it, where the block that was asked about has a candidate
pub has_turned : (p q r s t : Post) (block : List ℕ) → HasLoadedAll p q → IsLoaded q → IsPost q → IsUnmoved q r → IsPost r → IsHearing r s
    → HasHeard r s → HasTaken r s → IsAskedTimes 0 r.solver.log s.solver.log → s.models ≡ r.models → IsPost s → IsOnward s t → IsAskedTimes 2 s.solver.log t.solver.log
    → IsPost t → IsBlockOf q.loaded.items q.question.now.formula.vars 256 block → 0 < length block → HasTurned p q r s t
has_turned p q r s t block loads copied post_q same post_r hearing heard taken asked_s models_s post_s working asked_t post_t is some = record {
  loads = loads;
  copied = copied;
  post_q = post_q;
  same = same;
  post_r = post_r;
  hearing = hearing;
  heard = heard;
  taken = taken;
  asked_s = asked_s;
  models_s = models_s;
  post_s = post_s;
  working = working;
  asked_t = asked_t;
  post_t = post_t;
  some = omega (arith, some, is.count);
}

-- what the first look and the choice of another block leave of a query that was given up
pub given_up : (conflicts : ℕ) (p q r s : Post) (res : Result (Option TurnEnd) NoMemory) → IsInVain 0 p q → IsOnward p q → IsOnward q r → IsOnward r s
    → IsAskedTimes 0 q.solver.log r.solver.log → r.models ≡ q.models → IsAffordable conflicts q
    → IfOk res (λ tried. IfNone tried (IsInVain conflicts r s)) → IfOk res (λ tried. IfNone tried (IsGivenUp p s))
given_up conflicts p q r s (Ok (Some end)) first one two three looked models paid vain = vain
given_up conflicts p q r s (Ok None) first one two three looked models paid vain = record {
  models = vain.models ∙ models ∙ first.models;
  paid = paid_by conflicts p q r s first one two three looked paid vain;
}
  where
    paid_by : (conflicts : ℕ) (p q r s : Post) → IsInVain 0 p q → IsOnward p q → IsOnward q r → IsOnward r s
        → IsAskedTimes 0 q.solver.log r.solver.log → IsAffordable conflicts q → IsInVain conflicts r s
        → IsAskedTimes 0 p.solver.log s.solver.log
        ⊎ (learning_queries s.solver.log.entries + 2 * open_count p.loaded.items p.question.now.formula.vars ≤ 2 * p.question.now.formula.vars + 1)
    paid_by zero p q r s first one two three looked paid vain =
        let chosen : IsAskedTimes 0 p.solver.log r.solver.log =
        asked_after 0 0 p.solver.log q.solver.log r.solver.log (learnt_longer p.solver.log q.solver.log one.log)
        (learnt_longer q.solver.log r.solver.log two.log) first.asked looked in
        inl (asked_after 0 0 p.solver.log r.solver.log s.solver.log
        (omega (arith, learnt_longer p.solver.log q.solver.log one.log, learnt_longer q.solver.log r.solver.log two.log))
        (learnt_longer r.solver.log s.solver.log three.log) chosen vain.asked)
    paid_by (suc conflicts) p q r s first one two three looked paid vain =
        let n : ℕ = p.question.now.formula.vars in
        let vars : q.question.now.formula.vars ≡ n = ap (λ (a : About). a.formula.vars) one.question in
        let there : learning_queries q.solver.log.entries + 1 + 2 * open_count p.loaded.items n ≤ 2 * n + 1 =
        subst (λ (ws : List ℕ). learning_queries q.solver.log.entries + 1 + 2 * open_count ws n ≤ 2 * n + 1) one.copy
        (subst (λ (m : ℕ). learning_queries q.solver.log.entries + 1 + 2 * open_count q.loaded.items m ≤ 2 * m + 1) vars paid) in
        inr (omega (arith, there, vain.asked.most, looked.most))
given_up conflicts p q r s (Err e) first one two three looked models paid vain = vain
