-- A search keeps what it bears and solves, step by step.
--
-- bears_step, solving_step     what any step has to show
-- the others name their steps
use Rattle.std.proofs.Common.{◌≡◌, ℕ, ◌+◌, ◌<◌, ◌≤◌, List, [], ◌∷◌, ◌++◌, length, refl, sym, ap, ◌∙◌, subst, ⊎_elim, arith}
use Rattle.std.proofs.lemmas.List.{length_push, get_or_push}
use Rattle.std.proofs.lemmas.Bool.{cases_lt}
use Rattle.cnf_core.specs.Literals.{Literal, Literals}
use Rattle.cnf_core.specs.Formulas.{Cnf}
use Rattle.clause_arena.specs.Entries.{Entries}
use Rattle.trail_core.specs.declared.entry.Assigned.{Assigned}
use Rattle.trail_core.specs.declared.entry.Reason.{Reason}
use Rattle.trail_core.specs.declared.entry.Reason.TheVariants.{Decision, Clause as ByClause, Unit as ByUnit}
use Rattle.trail_core.specs.Trails.{no_entry, TrailState, assigned_at, IsTrail, with_entry, with_root, IsBacktracked}
use Rattle.watch_lists.specs.Clauses.{IsReordered}
use Rattle.watch_lists.specs.Lists.{WatchLists}
use Rattle.watch_lists.specs.Watching.{IsReady}
use Rattle.watch_lists.specs.Propagating.{IsPropagated}
use Rattle.watch_lists.proofs.Fronts.{IsFront, front_push}
use Rattle.conflict_analysis.specs.Reasons.{IsUnit}
use Rattle.lrat_log.specs.Entries.{Recorded}
use Rattle.lrat_log.specs.Fresh.{learnt_in}
use Rattle.search_policy.specs.Epochs.{EpochState}
use Rattle.assumption_solver.specs.Units.{IsUnitAt}
use Rattle.assumption_solver.specs.Steps.Searching.{HaveUnits, IsSearching}
use Rattle.assumption_solver.specs.Steps.Noted.{IsNoted}
use Rattle.assumption_solver.specs.Steps.Standing.{KeepsLearnt, Covers}
use Rattle.assumption_solver.specs.Steps.Solving.{IsSettled, IsBearing, IsSolving}
use Rattle.watch_lists.proofs.Kept.{ready_pushed}
use Rattle.assumption_solver.proofs.Reasons.{rooted_is, same_clauses, reasoned_pushed, at_unit}
use Rattle.assumption_solver.proofs.Steps.{searching_decided, searching_propagated, searching_backtracked, searching_rooted, unit_here, unit_kept}
use Rattle.assumption_solver.proofs.Tables.{IsLonger, longer_continued, noted_same}
use Rattle.assumption_solver.proofs.Moved.{KeepsRoots, AreUnits, roots_same, roots_front, roots_backtracked, roots_rooted, settled_front, place_kept, entry_kept}
use Rattle.assumption_solver.proofs.Moved.{units_longer, units_front, units_backtracked, units_rooted, covers_self, covers_reordered, covers_reordered_back}
use Rattle.assumption_solver.proofs.Moved.{inputs_moved, learnt_moved, logged_moved}

-- ---- any step

pub bears_step : (n m s r : ℕ) (a b : Entries) (w v : WatchLists) (t u : TrailState) (L M : Recorded) → IsBearing n s a w t L
    → IsSearching m b v u → u.vars ≡ t.vars → IsSettled u.entries r → Covers a b → Covers b a → KeepsRoots t.entries u.entries
    → AreUnits M u.entries → IsLonger L M → IsBearing m r b v u M
bears_step n m s r a b w v t u L M h searching vars settles from covers roots units longer = record {
  searching = searching;
  vars = vars ∙ h.vars ∙ ap (λ (F : Cnf). F.vars) (sym longer.formula);
  settles = settles;
  logged = logged_moved a b t.entries u.entries L M from units longer h.logged;
  inputs = inputs_moved a b t.entries u.entries L.formula M.formula covers roots longer.formula h.inputs;
}

pub solving_of : (n s : ℕ) (a b : Entries) (w : WatchLists) (t u : TrailState) (v : WatchLists) (m r : ℕ) (L M : Recorded) (epochs : EpochState)
    → IsSolving n s a w t L epochs → IsBearing m r b v u M → Covers b a → KeepsRoots t.entries u.entries
    → learnt_in M.entries M.query ≡ learnt_in L.entries L.query → IsSolving m r b v u M epochs
solving_of n s a b w t u v m r L M epochs h bears covers roots same = record {
  bears = bears;
  learnt = subst (λ (cs : List Literals). KeepsLearnt b u.entries cs epochs.epoch) (sym same)
      (learnt_moved a b t.entries u.entries (learnt_in L.entries L.query) epochs.epoch covers roots h.learnt);
  counted = h.counted ∙ ap length (sym same);
  in_epoch = h.in_epoch;
}

longer_same : (L : Recorded) → IsLonger L L
longer_same L = longer_continued L L (noted_same L).continued

-- ---- the log alone

pub bears_noted : (n s : ℕ) (a : Entries) (w : WatchLists) (t : TrailState) (L M : Recorded) → IsBearing n s a w t L → IsLonger L M
    → IsBearing n s a w t M
bears_noted n s a w t L M h longer =
    bears_step n n s s a a w w t t L M h h.searching refl h.settles (covers_self a) (covers_self a) (roots_same t.entries)
    (units_longer L M t.entries longer h.logged.units) longer

pub solving_noted : (n s : ℕ) (a : Entries) (w : WatchLists) (t : TrailState) (L M : Recorded) (epochs : EpochState)
    → IsSolving n s a w t L epochs → IsNoted L M → IsSolving n s a w t M epochs
solving_noted n s a w t L M epochs h noted =
    solving_of n s a a w t t w n s L M epochs h (bears_noted n s a w t L M h.bears (longer_continued L M noted.continued))
    (covers_self a) (roots_same t.entries) noted.learnt

-- ---- propagation

pub front_propagated : (b : Entries) (t u : TrailState) → IsPropagated b t u → IsFront t.entries u.entries
front_propagated b t u p = record { grown = p.grown; front = p.front }

pub solving_propagated : (n s : ℕ) (a b : Entries) (w v : WatchLists) (t u : TrailState) (L : Recorded) (epochs : EpochState)
    → IsSolving n s a w t L epochs → IsReady b v u → IsReordered a b → IsPropagated b t u → IsSolving n s b v u L epochs
solving_propagated n s a b w v t u L epochs h ready o p =
    let front = front_propagated b t u p in
    let roots = roots_front t.entries u.entries front in
    let covers = covers_reordered a b o in
    let bears = h.bears in
    solving_of n s a b w t u v n s L L epochs h
    (bears_step n n s s a b w v t u L L bears (searching_propagated n a b w v t u bears.searching ready o p) p.vars
    (settled_front t.entries u.entries s front bears.settles) (covers_reordered_back a b o) covers roots
    (units_front L t.entries u.entries front bears.logged.units (λ k id past within because.
    let f = p.forced k past within in
    let wrong : ByClause f.clause ≡ ByUnit id = sym f.reason ∙ because in cc))
    (longer_same L))
    covers roots refl

-- ---- decisions, and other entries

-- one entry more, which is no unit or one that the log has
pub solving_pushed : (n s : ℕ) (a : Entries) (w : WatchLists) (t : TrailState) (l : Literal) (level : ℕ) (why : Reason) (L : Recorded)
    (epochs : EpochState) → IsSolving n s a w t L epochs → IsSearching n a w (with_entry t l level why)
    → ((id : ℕ) → why ≡ ByUnit id → IsUnitAt L id l) → IsSolving n s a w (with_entry t l level why) L epochs
solving_pushed n s a w t l level why L epochs h searching unit =
    let x : Assigned = record { lit = l; level = level; reason = why } in
    let u = with_entry t l level why in
    let front = front_push t.entries x in
    let roots = roots_front t.entries u.entries front in
    let bears = h.bears in
    solving_of n s a a w t u w n s L L epochs h
    (bears_step n n s s a a w w t u L L bears searching refl (settled_front t.entries u.entries s front bears.settles)
    (covers_self a) (covers_self a) roots
    (units_front L t.entries u.entries front bears.logged.units (λ k id past within because.
    let at : k ≡ length t.entries = omega (arith, past, within, length_push t.entries x) in
    let is : assigned_at u.entries k ≡ x = get_or_push t.entries x no_entry k (sym at) in
    subst (λ (y : Assigned). IsUnitAt L id y.lit) (sym is) (unit id (ap (λ (y : Assigned). y.reason) (sym is) ∙ because))))
    (longer_same L))
    (covers_self a) roots refl

pub solving_decided : (n s : ℕ) (a : Entries) (w : WatchLists) (t : TrailState) (l : Literal) (L : Recorded) (epochs : EpochState)
    → IsSolving n s a w t L epochs → IsTrail t → t.gone ≡ length t.entries → HaveUnits t.entries
    → IsSolving n s a w (with_entry t l (t.level + 1) Decision) L epochs
solving_decided n s a w t l L epochs h trail quiet units =
    solving_pushed n s a w t l (t.level + 1) Decision L epochs h
    (searching_decided n a w t l h.bears.searching trail quiet units)
    (λ id same. let wrong : Decision ≡ ByUnit id = same in cc)

-- ---- the way back

pub settled_backtracked : (n s : ℕ) (a : Entries) (w : WatchLists) (t u : TrailState) (target : ℕ) (L : Recorded) → IsBearing n s a w t L
    → IsBacktracked target t u → IsSettled u.entries s
settled_backtracked n s a w t u target L h b =
    let stays : (k : ℕ) → k < s → k < length u.entries =
    λ k lt.
    let unit = h.settles.units k lt in
    let within : k < length t.entries = omega (arith, lt, h.settles.fits) in
    let root = h.searching.reasoned.units k unit.id within unit.reason in
    place_kept t u target k b within (omega (arith, root)) in record {
      fits = ⊎_elim
          (λ (lt : length u.entries < s). absurd (omega (arith, stays (length u.entries) lt)))
          (λ (le : s ≤ length u.entries). le)
          (cases_lt (length u.entries) s);
      units = λ k lt. subst IsUnit (sym (entry_kept t u target k b (stays k lt))) (h.settles.units k lt);
    }

pub bears_backtracked : (n s : ℕ) (a : Entries) (w : WatchLists) (t u : TrailState) (target : ℕ) (L : Recorded) → IsBearing n s a w t L
    → target ≤ t.level → IsBacktracked target t u → IsBearing n s a w u L
bears_backtracked n s a w t u target L h le b =
    bears_step n n s s a a w w t u L L h (searching_backtracked n a w t u target h.searching le b) b.vars
    (settled_backtracked n s a w t u target L h b) (covers_self a) (covers_self a) (roots_backtracked t u target b)
    (units_backtracked L t u target b h.logged.units) (longer_same L)

pub solving_backtracked : (n s : ℕ) (a : Entries) (w : WatchLists) (t u : TrailState) (target : ℕ) (L : Recorded) (epochs : EpochState)
    → IsSolving n s a w t L epochs → target ≤ t.level → IsBacktracked target t u → IsSolving n s a w u L epochs
solving_backtracked n s a w t u target L epochs h le b =
    solving_of n s a a w t u w n s L L epochs h (bears_backtracked n s a w t u target L h.bears le b) (covers_self a)
    (roots_backtracked t u target b) refl

-- ---- a reason set at the root, for the next entry to settle

pub solving_rooted : (n s : ℕ) (a : Entries) (w : WatchLists) (t : TrailState) (id : ℕ) (L : Recorded) (epochs : EpochState)
    → IsSolving n s a w t L epochs → s < length t.entries → (assigned_at t.entries s).level ≡ 0 → t.level ≡ 0
    → IsUnitAt L id (assigned_at t.entries s).lit → IsSolving n (s + 1) a w (with_root t s id) L epochs
solving_rooted n s a w t id L epochs h lt root level unit =
    let u = with_root t s id in
    let roots = roots_rooted t s id lt in
    let bears = h.bears in
    let r = rooted_is t s id lt in
    solving_of n s a a w t u w n (s + 1) L L epochs h
    (bears_step n n s (s + 1) a a w w t u L L bears (searching_rooted n a w t s id bears.searching lt root level) refl
    (record {
      fits = omega (arith, lt, r.count);
      units = λ k before. ⊎_elim
          (λ (old : k < s). unit_kept t s k id lt (bears.settles.units k old))
          (λ (past : s ≤ k).
          let at : k ≡ s = omega arith in
          subst (λ (m : ℕ). IsUnit (assigned_at u.entries m)) (sym at) (unit_here t s id lt))
          (cases_lt k s);
    })
    (covers_self a) (covers_self a) roots (units_rooted L t s id lt bears.logged.units unit) (longer_same L))
    (covers_self a) roots refl

-- where its reason is a unit already
pub solving_settled : (n s : ℕ) (a : Entries) (w : WatchLists) (t : TrailState) (L : Recorded) (epochs : EpochState)
    → IsSolving n s a w t L epochs → s < length t.entries → IsUnit (assigned_at t.entries s) → IsSolving n (s + 1) a w t L epochs
solving_settled n s a w t L epochs h lt unit =
    let bears = h.bears in
    solving_of n s a a w t t w n (s + 1) L L epochs h
    (bears_step n n s (s + 1) a a w w t t L L bears bears.searching refl
    (record {
      fits = omega (arith, lt);
      units = λ k before. ⊎_elim
          (λ (old : k < s). bears.settles.units k old)
          (λ (past : s ≤ k). let at : k ≡ s = omega arith in subst (λ (m : ℕ). IsUnit (assigned_at t.entries m)) (sym at) unit)
          (cases_lt k s);
    })
    (covers_self a) (covers_self a) (roots_same t.entries) bears.logged.units (longer_same L))
    (covers_self a) (roots_same t.entries) refl

-- a unit more at the root

searching_root_unit : (n : ℕ) (a : Entries) (w : WatchLists) (t : TrailState) (l : Literal) (id : ℕ) → IsSearching n a w t → t.level ≡ 0
    → IsSearching n a w (with_entry t l t.level (ByUnit id))
searching_root_unit n a w t l id s root =
    let x : Assigned = record { lit = l; level = t.level; reason = ByUnit id } in
    let fs = t.entries ++ x ∷ [] in
    let is : assigned_at fs (length t.entries) ≡ x = get_or_push t.entries x no_entry (length t.entries) refl in record {
      vars = s.vars;
      ready = ready_pushed a w t l (ByUnit id) s.ready;
      reasoned = reasoned_pushed a a t.entries x (same_clauses a) s.reasoned
          (at_unit a fs (length t.entries) id (ap (λ (y : Assigned). y.reason) is) (ap (λ (y : Assigned). y.level) is ∙ root));
      all_long = s.all_long;
      units = λ above. absurd (omega (arith, above, root));
    }

pub solving_unit : (n s : ℕ) (a : Entries) (w : WatchLists) (t : TrailState) (l : Literal) (id : ℕ) (L : Recorded) (epochs : EpochState)
    → IsSolving n s a w t L epochs → t.level ≡ 0 → IsUnitAt L id l → IsSolving n s a w (with_entry t l t.level (ByUnit id)) L epochs
solving_unit n s a w t l id L epochs h root unit =
    solving_pushed n s a w t l t.level (ByUnit id) L epochs h (searching_root_unit n a w t l id h.bears.searching root)
    (λ m same.
    let ids : id ≡ m = cc in
    subst (λ (k : ℕ). IsUnitAt L k l) ids unit)
