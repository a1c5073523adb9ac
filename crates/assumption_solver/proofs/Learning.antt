-- A search that learnt a clause, went back, and made its first literal true.
use Rattle.std.proofs.Common.{◌≡◌, ◌∙◌, ℕ, ◌+◌, ◌<◌, ◌≤◌, ◌^◌, suc, Bool, true, false, cond, List, [], ◌∷◌, ◌++◌, length, drop, Contains, sym, ap, subst, arith}
use Rattle.std.proofs.lemmas.List.{length_push, drop_all}
use Rattle.std.proofs.lemmas.Bool.{eqb-true}
use Rattle.cnf_core.specs.Literals.{Literals}
use Rattle.cnf_core.specs.Epochs.{epoch_start}
use Rattle.clause_arena.specs.Entries.{Entries}
use Rattle.trail_core.specs.Trails.{TrailState, IsBacktracked}
use Rattle.watch_lists.specs.Lists.{WatchLists}
use Rattle.lrat_log.specs.Entries.{Recorded, learnt_count}
use Rattle.lrat_log.specs.Fresh.{learnt_in}
use Rattle.search_policy.specs.Epochs.{EpochState, ends, next_clause, IsInEpoch}
use Rattle.assumption_solver.specs.declared.search.Search.{Search}
use Rattle.assumption_solver.specs.Logs.{IsContinued}
use Rattle.assumption_solver.specs.Steps.Noted.{IsNoted, HasLearnt}
use Rattle.assumption_solver.specs.Steps.Standing.{Stands, KeepsLearnt}
use Rattle.assumption_solver.specs.Steps.Solving.{IsBearing, IsSolving}
use Rattle.assumption_solver.specs.Steps.States.{Bears, Solves, StaysLearnt, StaysGuided}
use Rattle.assumption_solver.proofs.Tables.{longer_continued, continued_trans}
use Rattle.assumption_solver.proofs.Moved.{roots_backtracked, covers_self, learnt_moved}
use Rattle.assumption_solver.proofs.Solved.{bears_noted, bears_backtracked}
use Rattle.assumption_solver.proofs.Guided.{guided_backtracked}
use Rattle.assumption_solver.proofs.Back.{bears_same}
use Rattle.assumption_solver.proofs.Freshness.{learnt_in_few}
use Rattle.assumption_solver.proofs.Learnt.{keeps_pushed}

-- what a search went back to, with a longer log
pub record IsWentBack (back : ℕ) (s b : Search) (M : Recorded) : Type 0 where
  pub trail : IsBacktracked back s.trail b.trail
  pub arena : b.arena ≡ s.arena
  pub watches : b.watches ≡ s.watches
  pub analyser : b.analyser ≡ s.analyser
  pub settled : b.settled ≡ s.settled
  pub journal : b.journal ≡ M
  pub epochs : b.epochs ≡ s.epochs

pub bears_learnt : (s b : Search) (M : Recorded) (lits : Literals) (back : ℕ) → Solves s → HasLearnt s.journal M lits → back ≤ s.trail.level
    → IsWentBack back s b M → Bears b
bears_learnt s b M lits back h learnt le w =
    bears_same s.analyser b.analyser s.settled b.settled s.arena b.arena s.watches b.watches b.trail M b.journal
    w.analyser w.settled w.arena w.watches w.journal
    (bears_backtracked s.analyser s.settled s.arena s.watches s.trail b.trail back M
    (bears_noted s.analyser s.settled s.arena s.watches s.trail s.journal M h.bears (longer_continued s.journal M learnt.continued))
    le w.trail)

-- what the call for its end asks
pub record IsCounting (v : Search) : Type 0 where
  pub learnt : KeepsLearnt v.arena v.trail.entries (learnt_in v.journal.entries v.journal.query) v.epochs.epoch
  pub counted : v.epochs.count + 1 ≡ length (learnt_in v.journal.entries v.journal.query)
  pub room : v.epochs.count < 2 ^ 40

pub is_counting : (s b v : Search) (M : Recorded) (lits : Literals) (back : ℕ) → Solves s → HasLearnt s.journal M lits
    → IsWentBack back s b M → StaysLearnt b v → Stands v.arena v.trail.entries true lits → IsNoted b.journal v.journal → v.epochs ≡ b.epochs
    → learnt_count s.journal.entries < 2 ^ 40 → IsCounting v
is_counting s b v M lits back h learnt w stays stands noted epochs room =
    let xs = learnt_in s.journal.entries s.journal.query in
    let list : learnt_in v.journal.entries v.journal.query ≡ xs ++ lits ∷ [] =
    noted.learnt ∙ ap (λ (L : Recorded). learnt_in L.entries L.query) w.journal ∙ learnt.learnt in
    let same : v.epochs ≡ s.epochs = epochs ∙ w.epochs in
    let old : KeepsLearnt b.arena b.trail.entries xs s.epochs.epoch =
    subst (λ (a : Entries). KeepsLearnt a b.trail.entries xs s.epochs.epoch) (sym w.arena)
    (learnt_moved s.arena s.arena s.trail.entries b.trail.entries xs s.epochs.epoch (covers_self s.arena)
    (roots_backtracked s.trail b.trail back w.trail) h.learnt) in
    let count : s.epochs.count ≡ length xs = h.counted in
    let begun : epoch_start s.epochs.epoch ≤ s.epochs.count = h.in_epoch.begun in
    let low : epoch_start s.epochs.epoch ≤ length xs = omega (arith, begun, count) in
    let all : KeepsLearnt v.arena v.trail.entries (xs ++ lits ∷ []) s.epochs.epoch =
    keeps_pushed v.arena v.trail.entries xs lits s.epochs.epoch low (stays xs s.epochs.epoch old) stands in record {
      learnt = subst (λ (e : EpochState). KeepsLearnt v.arena v.trail.entries (learnt_in v.journal.entries v.journal.query) e.epoch) (sym same)
          (subst (λ (cs : List Literals). KeepsLearnt v.arena v.trail.entries cs s.epochs.epoch) (sym list) all);
      counted = ap (λ (e : EpochState). e.count + 1) same ∙ ap (λ (n : ℕ). n + 1) count ∙ sym (length_push xs lits) ∙ ap length (sym list);
      room = omega (arith, room, ap (λ (e : EpochState). e.count) same, count, learnt_in_few s.journal.entries s.journal.query);
    }

pub guided_learnt : (s b v u : Search) (back : ℕ) → IsBacktracked back s.trail b.trail → back ≤ s.trail.level → StaysGuided b v → StaysGuided v u
    → StaysGuided s u
guided_learnt s b v u back w le f g assume chunk h = g assume chunk (f assume chunk (guided_backtracked s.trail b.trail back w le assume chunk h))

pub continued_learnt : (s b v : Search) (M : Recorded) (lits : Literals) → HasLearnt s.journal M lits → b.journal ≡ M → IsNoted b.journal v.journal
    → IsContinued s.journal v.journal
continued_learnt s b v M lits learnt same noted =
    continued_trans s.journal M v.journal learnt.continued
    (subst (λ (L : Recorded). IsContinued L v.journal) same noted.continued)

-- ---- the count itself

solving_counted : (n s : ℕ) (a : Entries) (w : WatchLists) (t : TrailState) (L : Recorded) (old new : EpochState) → IsBearing n s a w t L
    → KeepsLearnt a t.entries (learnt_in L.entries L.query) old.epoch → old.count + 1 ≡ length (learnt_in L.entries L.query)
    → new.epoch ≡ old.epoch → new.count ≡ old.count + 1 → IsInEpoch new → IsSolving n s a w t L new
solving_counted n s a w t L old new h keeps counted epoch count in_epoch = record {
  bears = h;
  learnt = subst (λ (e : ℕ). KeepsLearnt a t.entries (learnt_in L.entries L.query) e) (sym epoch) keeps;
  counted = count ∙ counted;
  in_epoch = in_epoch;
}

not_ended : (e f : EpochState) → ends e ≡ false → f ≡ next_clause e → f ≡ record { epoch = e.epoch; count = e.count + 1 }
not_ended e f never is =
    is ∙ ap (λ (b : Bool). cond b (let x : EpochState = record { epoch = suc e.epoch; count = e.count + 1 } in x)
    (record { epoch = e.epoch; count = e.count + 1 })) never

is_ended : (e f : EpochState) → ends e ≡ true → f ≡ next_clause e → f ≡ record { epoch = suc e.epoch; count = e.count + 1 }
is_ended e f ended is =
    is ∙ ap (λ (b : Bool). cond b (let x : EpochState = record { epoch = suc e.epoch; count = e.count + 1 } in x)
    (record { epoch = e.epoch; count = e.count + 1 })) ended

pub solving_unended : (n s : ℕ) (a : Entries) (w : WatchLists) (t : TrailState) (L : Recorded) (old new : EpochState) (due : Bool)
    → IsBearing n s a w t L
    → KeepsLearnt a t.entries (learnt_in L.entries L.query) old.epoch → old.count + 1 ≡ length (learnt_in L.entries L.query)
    → due ≡ ends old → due ≡ false → new ≡ next_clause old → IsInEpoch new → IsSolving n s a w t L new
solving_unended n s a w t L old new due h keeps counted value never next in_epoch =
    let is = not_ended old new (sym value ∙ never) next in
    solving_counted n s a w t L old new h keeps counted (ap (λ (e : EpochState). e.epoch) is) (ap (λ (e : EpochState). e.count) is) in_epoch

-- at its end no clause is the epoch's
pub over_ended : (xs : List Literals) (old new : EpochState) (due : Bool) → old.count + 1 ≡ length xs → due ≡ ends old → due ≡ true
    → new ≡ next_clause old → length xs ≤ epoch_start new.epoch
over_ended xs old new due counted value ended next =
    let is = is_ended old new (sym value ∙ ended) next in
    let at : old.count + 1 ≡ epoch_start (suc old.epoch) = eqb-true (old.count + 1) (epoch_start (suc old.epoch)) (sym value ∙ ended) in
    let start : epoch_start new.epoch ≡ epoch_start (suc old.epoch) = ap (λ (e : EpochState). epoch_start e.epoch) is in
    omega (arith, counted, at, start)

pub solving_ended : (n s : ℕ) (a : Entries) (w : WatchLists) (t : TrailState) (L : Recorded) (old new : EpochState) (due : Bool)
    → IsBearing n s a w t L → old.count + 1 ≡ length (learnt_in L.entries L.query)
    → due ≡ ends old → due ≡ true → new ≡ next_clause old → IsInEpoch new → IsSolving n s a w t L new
solving_ended n s a w t L old new due h counted value ended next in_epoch =
    let xs = learnt_in L.entries L.query in
    let is = is_ended old new (sym value ∙ ended) next in
    let none : drop (epoch_start new.epoch) xs ≡ [] =
    drop_all (epoch_start new.epoch) xs (over_ended xs old new due counted value ended next) in record {
      bears = h;
      learnt = λ d member.
          let nothing : Contains [] d = subst (λ (cs : List Literals). Contains cs d) none member in absurd (omega (arith, nothing.1));
      counted = ap (λ (e : EpochState). e.count) is ∙ counted;
      in_epoch = in_epoch;
    }
