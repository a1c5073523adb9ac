-- How a caller keeps arena, watches and trail ready for propagation across its own steps.
--
-- attached_empty                         after `Watches::new`, over an arena without clauses to watch
-- clean_none, clean_added, clean_removed     what `rebuild` asks of the clauses
-- ready_new                              after `Arena::new`, `Watches::new` and `Trail::new`
-- ready_empty, ready_attached            after `rebuild`, over a new trail or at the root
-- ready_decided, ready_pushed            after `Trail::decide` on a quiet trail, after `Trail::push`
-- ready_backtracked, quiet_backtracked   after `Trail::backtrack`
-- ready_lowered                          after `Trail::set_gone` to a lower count, at the root
-- ready_rooted                           after `Trail::root`
-- ready_short, ready_added, ready_first  after a clause was added, and attached if it has two literals
-- watches_allow                          the rule for an added clause whose first literal is true
-- settled_below                          nothing was left to propagate before the present level
-- Removing clauses and compacting: `Compacted`.
use Rattle.std.proofs.Common.{◌≡◌, ◌≢◌, ℕ, ◌+◌, ◌<◌, ◌≤◌, ◌⊎◌, Bool, true, false, List, [], ◌∷◌, length, get_or, Contains, refl, sym, ap}
use Rattle.std.proofs.Common.{◌∙◌, subst, inl, inr, ⊎_elim, arith}
use Rattle.std.proofs.lemmas.List.{length_push, get_or_push, get_or_append_left, get_or-take, length-set, get_or-set_same, get_or-set_other}
use Rattle.std.proofs.lemmas.Bool.{cases_eq, cases_lt, false≢true}
use Rattle.cnf_core.specs.Literals.{Literal, negated}
use Rattle.clause_arena.specs.Entries.{Entry, Entries, no_entry as no_clause, no_literal, entry_at, literal_of, IsLive}
use Rattle.clause_arena.specs.Entries.{with_entry as with_new, without_clause}
use Rattle.trail_core.specs.declared.entry.Assigned.{Assigned}
use Rattle.trail_core.specs.declared.entry.Reason.{Reason}
use Rattle.trail_core.specs.declared.entry.Reason.TheVariants.{Decision}
use Rattle.trail_core.specs.Trails.{no_entry, assigned_at, IsTrail, TrailState, empty_trail, with_entry, with_root, IsBacktracked}
use Rattle.watch_lists.specs.Clauses.{IsLong, IsClean, AreClean, HasTrueBy, IsSettledBelow}
use Rattle.trail_core.specs.TrueAndFalse.{HasLiteralBy, HasLiteralBelow}
use Rattle.watch_lists.specs.Lists.{WatchLists, empty_lists, with_clause, HasWatchFrom, list_of, watch_at, IsAttached}
use Rattle.watch_lists.specs.Watching.{IsWatched, IsReady}
use Rattle.watch_lists.proofs.Orders.{literal_member}
use Rattle.watch_lists.proofs.Fronts.{front_push, at_front, true_by_kept}
use Rattle.watch_lists.proofs.Attached.{IsFilled, attached_of, filled_clause, filled_empty, two_cases, literal_eq}
use Rattle.watch_lists.proofs.Visited.{level_below}

-- ---- nothing is propagated yet

-- lists without watches, where no live clause has two literals
pub attached_empty : (a : Entries) (vars : ℕ) → ((r : ℕ) → IsLong a r → ⊥) → IsAttached a (empty_lists vars)
attached_empty a vars none =
    attached_of (λ r. ⊥) a (empty_lists vars) (filled_empty (λ r. ⊥) a vars (λ r never long. never)) none (λ r long. absurd (none r long))

-- at the root, with no entry propagated
pub ready_attached : (a : Entries) (w : WatchLists) (t : TrailState) → IsAttached a w → w.vars ≡ t.vars → IsTrail t → t.level ≡ 0
    → IsReady a w (record t { gone = 0 })
ready_attached a w t h vars trail root = record {
  vars = vars;
  attached = h;
  watched = record { rule = λ r i p long two before at. absurd (omega (arith, before)) };
  gone = omega arith;
  present = λ k past within. omega (arith, root, level_below t.entries t.level k trail.leveled within);
}

-- over a trail without entries
pub ready_empty : (a : Entries) (w : WatchLists) → IsAttached a w → IsReady a w (empty_trail w.vars)
ready_empty a w h = record {
  vars = refl;
  attached = h;
  watched = record { rule = λ r i p long two before at. absurd (omega (arith, before)) };
  gone = omega arith;
  present = λ k past within. absurd (omega (arith, within));
}

-- without clauses
pub ready_new : (a : Entries) (w : WatchLists) (t : TrailState) (vars : ℕ) → a ≡ [] → w ≡ empty_lists vars → t ≡ empty_trail vars
    → IsReady a w t
ready_new a w t vars none no_watches no_entries =
    let attached = attached_empty a vars
    (λ r long. omega (arith, ap (λ (b : Entries). length b) none, long.live.present)) in
    subst (λ (v : WatchLists). IsReady a v t) (sym no_watches)
    (subst (IsReady a (empty_lists vars)) (sym no_entries) (ready_empty a (empty_lists vars) attached))

-- ---- an entry more

-- the rule speaks of the old entries alone
watched_more : (a : Entries) (t : TrailState) (l : Literal) (level : ℕ) (why : Reason) → IsWatched a t → t.gone ≤ length t.entries
    → IsWatched a (with_entry t l level why)
watched_more a t l level why h gone =
    let x : Assigned = record { lit = l; level = level; reason = why } in
    let u = with_entry t l level why in
    let front = front_push t.entries x in record {
      rule = λ r i p long two before at.
          let old : assigned_at u.entries p ≡ assigned_at t.entries p = at_front t.entries u.entries p front (omega arith) in
          subst (λ (e : Assigned). HasTrueBy a u.entries r e.level) (sym old)
          (true_by_kept a a t.entries u.entries r (assigned_at t.entries p).level (λ k member. member) front
          (h.rule r i p long two before (ap (λ (e : Assigned). e.lit) (sym old) ∙ at)));
    }

-- pushed at the present level
pub ready_pushed : (a : Entries) (w : WatchLists) (t : TrailState) (l : Literal) (why : Reason) → IsReady a w t
    → IsReady a w (with_entry t l t.level why)
ready_pushed a w t l why h =
    let x : Assigned = record { lit = l; level = t.level; reason = why } in
    let u = with_entry t l t.level why in
    let size : length u.entries ≡ length t.entries + 1 = length_push t.entries x in record {
      vars = h.vars;
      attached = h.attached;
      watched = watched_more a t l t.level why h.watched h.gone;
      gone = omega (arith, h.gone);
      present = λ k past within. ⊎_elim
          (λ (old : k < length t.entries).
          ap (λ (e : Assigned). e.level) (at_front t.entries u.entries k (front_push t.entries x) old) ∙ h.present k past old)
          (λ (new : length t.entries ≤ k). ap (λ (e : Assigned). e.level) (get_or_push t.entries x no_entry k (omega arith)))
          (cases_lt k (length t.entries));
    }

-- decided on a quiet trail
pub ready_decided : (a : Entries) (w : WatchLists) (t : TrailState) (l : Literal) → IsReady a w t → t.gone ≡ length t.entries
    → IsReady a w (with_entry t l (t.level + 1) Decision)
ready_decided a w t l h quiet =
    let x : Assigned = record { lit = l; level = t.level + 1; reason = Decision } in
    let u = with_entry t l (t.level + 1) Decision in
    let size : length u.entries ≡ length t.entries + 1 = length_push t.entries x in record {
      vars = h.vars;
      attached = h.attached;
      watched = watched_more a t l (t.level + 1) Decision h.watched h.gone;
      gone = omega (arith, h.gone);
      present = λ k past within. ap (λ (e : Assigned). e.level) (get_or_push t.entries x no_entry k (omega arith));
    }

-- ---- entries taken away

kept_entry : (t u : TrailState) (target k : ℕ) → IsBacktracked target t u → k < length u.entries
    → assigned_at u.entries k ≡ assigned_at t.entries k
kept_entry t u target k b lt =
    ap (λ (es : List Assigned). assigned_at es k) b.front ∙ get_or-take (length u.entries) t.entries k no_entry lt

-- a watch that stays false has an entry that stays, and the true literal has its level or a lower one
watched_backtracked : (a : Entries) (t u : TrailState) (target : ℕ) → IsWatched a t → IsBacktracked target t u → IsWatched a u
watched_backtracked a t u target h b = record {
  rule = λ r i p long two before at.
      let inside : p < length u.entries = omega (arith, b.gone) in
      let old = kept_entry t u target p b inside in
      let was = h.rule r i p long two (omega (arith, b.gone)) (ap (λ (e : Assigned). e.lit) (sym old) ∙ at) in
      let m = was.made in
      let stays : m.place < length u.entries = ⊎_elim
      (λ (lt : m.place < length u.entries). lt)
      (λ (past : length u.entries ≤ m.place).
      absurd (omega (arith, b.removed m.place past m.within, b.kept p inside, m.level)))
      (cases_lt m.place (length u.entries)) in
      let here = kept_entry t u target m.place b stays in record {
        lit = was.lit;
        member = was.member;
        made = record {
          place = m.place;
          within = stays;
          lit = ap (λ (e : Assigned). e.lit) here ∙ m.lit;
          level = omega (arith, ap (λ (e : Assigned). e.level) here, ap (λ (e : Assigned). e.level) old, m.level);
        };
      };
}

pub ready_backtracked : (a : Entries) (w : WatchLists) (t u : TrailState) (target : ℕ) → IsReady a w t → target ≤ t.level
    → IsBacktracked target t u → IsReady a w u
ready_backtracked a w t u target h le b = record {
  vars = h.vars ∙ sym b.vars;
  attached = h.attached;
  watched = watched_backtracked a t u target h.watched b;
  gone = omega (arith, b.gone);
  present = λ k past within.
      omega (
        arith,
        ap (λ (e : Assigned). e.level) (kept_entry t u target k b within),
        h.present k (omega (arith, b.gone)) (omega (arith, b.fits)),
        b.kept k within,
        b.level,
      );
}

-- below the present level every entry was propagated
pub quiet_backtracked : (a : Entries) (w : WatchLists) (t u : TrailState) (target : ℕ) → IsReady a w t → target < t.level
    → IsBacktracked target t u → u.gone ≡ length u.entries
quiet_backtracked a w t u target h lt b =
    ⊎_elim
    (λ (short : t.gone < length u.entries).
    absurd (omega (arith, h.present t.gone (omega arith) (omega (arith, b.fits)), b.kept t.gone short)))
    (λ (long : length u.entries ≤ t.gone). omega (arith, b.gone))
    (cases_lt t.gone (length u.entries))

-- fewer entries count as propagated, at the root
pub ready_lowered : (a : Entries) (w : WatchLists) (t : TrailState) (n : ℕ) → IsReady a w t → n ≤ t.gone → IsTrail t → t.level ≡ 0
    → IsReady a w (record t { gone = n })
ready_lowered a w t n h le trail root = record {
  vars = h.vars;
  attached = h.attached;
  watched = record { rule = λ r i p long two before at. h.watched.rule r i p long two (omega arith) at };
  gone = omega (arith, h.gone);
  present = λ k past within. omega (arith, root, level_below t.entries t.level k trail.leveled within);
}

-- ---- a reason set

pub ready_rooted : (a : Entries) (w : WatchLists) (t : TrailState) (k id : ℕ) → IsReady a w t → k < length t.entries
    → IsReady a w (with_root t k id)
ready_rooted a w t k id h lt =
    let u = with_root t k id in
    let x : Assigned = record (assigned_at t.entries k) { reason = Rattle.trail_core.specs.declared.entry.Reason.TheVariants.Unit id } in
    let size : length u.entries ≡ length t.entries = length-set t.entries k x in
    let same : (F : Assigned → Type 0) (G : Assigned → Type 0) → (F x → G (assigned_at t.entries k)) → ((j : ℕ)
    → F (assigned_at t.entries j)
    → G (assigned_at t.entries j)) → (j : ℕ) → F (assigned_at u.entries j) → G (assigned_at t.entries j) =
    λ F G here others j was. ⊎_elim
    (λ (at : j ≡ k).
    subst (λ (n : ℕ). G (assigned_at t.entries n)) (sym at)
    (here (subst F (ap (λ (n : ℕ). assigned_at u.entries n) at ∙ get_or-set_same t.entries k x no_entry lt) was)))
    (λ (other : j ≢ k). others j (subst F (get_or-set_other t.entries k j x no_entry other) was))
    (cases_eq j k) in
    let lit : (j : ℕ) → (assigned_at u.entries j).lit ≡ (assigned_at t.entries j).lit =
    λ j. same (λ e. (assigned_at u.entries j).lit ≡ e.lit) (λ e. (assigned_at u.entries j).lit ≡ e.lit) (λ e. e) (λ i e. e) j refl in
    let level : (j : ℕ) → (assigned_at u.entries j).level ≡ (assigned_at t.entries j).level =
    λ j. same (λ e. (assigned_at u.entries j).level ≡ e.level) (λ e. (assigned_at u.entries j).level ≡ e.level) (λ e. e)
    (λ i e. e) j refl in record {
      vars = h.vars;
      attached = h.attached;
      watched = record {
        rule = λ r i p long two before at.
            let was = h.watched.rule r i p long two before (sym (lit p) ∙ at) in record {
              lit = was.lit;
              member = was.member;
              made = record {
                place = was.made.place;
                within = omega (arith, was.made.within);
                lit = lit was.made.place ∙ was.made.lit;
                level = omega (arith, level p, level was.made.place, was.made.level);
              };
            };
      };
      gone = omega (arith, h.gone);
      present = λ j past within. level j ∙ h.present j past (omega arith);
    }

-- ---- a clause more

entry_old : (a : Entries) (e : Entry) (r : ℕ) → r < length a → entry_at (with_new a e) r ≡ entry_at a r
entry_old a e r lt = get_or_append_left a (e ∷ []) no_clause r lt

entry_new : (a : Entries) (e : Entry) → entry_at (with_new a e) (length a) ≡ e
entry_new a e = get_or_push a e no_clause (length a) refl

long_old : (a : Entries) (e : Entry) (r : ℕ) → r < length a → IsLong (with_new a e) r → IsLong a r
long_old a e r lt h = record {
  live = record { present = lt; live = ap (λ (x : Entry). x.live) (sym (entry_old a e r lt)) ∙ h.live.live };
  long = subst (λ (x : Entry). 2 ≤ length x.lits) (entry_old a e r lt) h.long;
}

long_new : (a : Entries) (e : Entry) (r : ℕ) → r < length a → IsLong a r → IsLong (with_new a e) r
long_new a e r lt h = record {
  live = record {
    present = omega (arith, length_push a e);
    live = ap (λ (x : Entry). x.live) (entry_old a e r lt) ∙ h.live.live;
  };
  long = subst (λ (x : Entry). 2 ≤ length x.lits) (sym (entry_old a e r lt)) h.long;
}

clean_new : (n : ℕ) (a : Entries) (e : Entry) (r : ℕ) → r < length a → IsClean n (entry_at a r).lits
    → IsClean n (entry_at (with_new a e) r).lits
clean_new n a e r lt h = subst (λ (x : Entry). IsClean n x.lits) (sym (entry_old a e r lt)) h

-- of the clauses of the longer arena each is an old one or the new one
each_long : (a : Entries) (e : Entry) (P : ℕ → Type 0) → ((r : ℕ) → r < length a → IsLong a r → P r)
    → (IsLong (with_new a e) (length a) → P (length a)) → (r : ℕ) → IsLong (with_new a e) r → P r
each_long a e P old new r long =
    ⊎_elim
    (λ (before : r < length a). old r before (long_old a e r before long))
    (λ (past : length a ≤ r).
    let at : r ≡ length a = omega (arith, length_push a e, long.live.present) in
    subst P (sym at) (new (subst (IsLong (with_new a e)) at long)))
    (cases_lt r (length a))

-- an arena without clauses
pub clean_none : (n : ℕ) → AreClean n []
clean_none n r long = absurd (omega (arith, long.live.present))

-- clauses stay clean where a clean one is added
pub clean_added : (n : ℕ) (a : Entries) (e : Entry) → AreClean n a → IsClean n e.lits → AreClean n (with_new a e)
clean_added n a e old new =
    each_long a e (λ r. IsClean n (entry_at (with_new a e) r).lits) (λ r lt long. clean_new n a e r lt (old r long))
    (λ long. subst (λ (x : Entry). IsClean n x.lits) (sym (entry_new a e)) new)

-- they stay so where one is removed
pub clean_removed : (n : ℕ) (a : Entries) (d : ℕ) → IsLive a d → AreClean n a → AreClean n (without_clause a d)
clean_removed n a d here old r long =
    let x : Entry = record (entry_at a d) { live = false } in
    ⊎_elim
    (λ (at : r ≡ d).
    let dead : (entry_at (without_clause a d) r).live ≡ false =
    ap (λ (k : ℕ). (entry_at (without_clause a d) k).live) at ∙ ap (λ (e : Entry). e.live) (get_or-set_same a d x no_clause here.present) in
    absurd (false≢true (sym dead ∙ long.live.live)))
    (λ (other : r ≢ d).
    let same : entry_at (without_clause a d) r ≡ entry_at a r = get_or-set_other a d r x no_clause other in
    let was : IsLong a r = record {
      live = record {
        present = omega (arith, length-set a d x, long.live.present);
        live = ap (λ (e : Entry). e.live) (sym same) ∙ long.live.live;
      };
      long = subst (λ (e : Entry). 2 ≤ length e.lits) same long.long;
    } in
    subst (λ (e : Entry). IsClean n e.lits) (sym same) (old r was))
    (cases_eq r d)

filled_old : (a : Entries) (w : WatchLists) (e : Entry) → IsAttached a w → IsFilled (λ r. r < length a) (with_new a e) w
filled_old a w e h = record {
  size = h.size;
  sound = λ l k lt.
      let s = h.sound l k lt in
      let x = watch_at w l k in
      let is = entry_old a e x.clause s.long.live.present in record {
        long = long_new a e x.clause s.long.live.present s.long;
        blocker = subst (λ (y : Entry). Contains y.lits x.blocker) (sym is) s.blocker;
        pair = λ two m member. s.pair two m (subst (λ (y : Entry). Contains y.lits m) is member);
      };
  complete = λ r i lt long two.
      subst (λ (y : Entry). HasWatchFrom (list_of w (get_or y.lits i no_literal)) r 0) (sym (entry_old a e r lt))
      (h.complete r i (long_old a e r lt long) two);
}

watched_old : (a : Entries) (t : TrailState) (e : Entry) (r i p : ℕ) → IsWatched a t → r < length a → IsLong a r → i < 2 → p < t.gone
    → (assigned_at t.entries p).lit ≡ negated (literal_of (with_new a e) r i)
    → HasTrueBy (with_new a e) t.entries r (assigned_at t.entries p).level
watched_old a t e r i p h lt long two before at =
    let is = entry_old a e r lt in
    let was = h.rule r i p long two before (at ∙ ap (λ (x : Entry). negated (get_or x.lits i no_literal)) is) in record {
      lit = was.lit;
      member = subst (λ (x : Entry). Contains x.lits was.lit) (sym is) was.member;
      made = was.made;
    }

-- a clause that isn't watched
pub ready_short : (a : Entries) (w : WatchLists) (t : TrailState) (e : Entry) → IsReady a w t → length e.lits < 2
    → IsReady (with_new a e) w t
ready_short a w t e h few =
    let b = with_new a e in
    let never : IsLong b (length a) → ⊥ =
    λ long. omega (arith, subst (λ (x : Entry). 2 ≤ length x.lits) (entry_new a e) long.long) in
    let old : (r : ℕ) → IsLong b r → r < length a = each_long a e (λ r. r < length a) (λ r lt long. lt)
    (λ long. absurd (never long)) in record {
      vars = h.vars;
      attached = attached_of (λ r. r < length a) b w (filled_old a w e h.attached) old
          (each_long a e (λ r. IsClean w.vars (entry_at b r).lits) (λ r lt long. clean_new w.vars a e r lt (h.attached.clean r long))
          (λ long. absurd (never long)));
      watched = record {
        rule = λ r i p long two before at. watched_old a t e r i p h.watched (old r long) (long_old a e r (old r long) long) two before at;
      };
      gone = h.gone;
      present = h.present;
    }

-- a clause that is attached, where the rule holds of its watches
pub ready_added : (a : Entries) (w : WatchLists) (t : TrailState) (e : Entry) → IsReady a w t → IsLong (with_new a e) (length a)
    → IsClean w.vars e.lits
    → ((i p : ℕ) → i < 2 → p < t.gone → (assigned_at t.entries p).lit ≡ negated (literal_of (with_new a e) (length a) i)
    → HasTrueBy (with_new a e) t.entries (length a) (assigned_at t.entries p).level)
    → IsReady (with_new a e) (with_clause w (with_new a e) (length a)) t
ready_added a w t e h long clean rule =
    let b = with_new a e in
    let n = length a in
    let clean_last = subst (λ (x : Entry). IsClean w.vars x.lits) (sym (entry_new a e)) clean in
    let kinds : (s : ℕ) → IsLong b s → (s < n) ⊎ (s ≡ n) = λ s lng. ⊎_elim
    (λ (lt : s < n). let c : (s < n) ⊎ (s ≡ n) = inl lt in c)
    (λ (past : n ≤ s). let c : (s < n) ⊎ (s ≡ n) = inr (omega (arith, length_push a e, lng.live.present)) in c)
    (cases_lt s n) in record {
      vars = h.vars;
      attached = attached_of (IsLong b) b (with_clause w b n)
          (filled_clause (λ r. r < n) (IsLong b) b w n (filled_old a w e h.attached) long clean_last kinds) (λ r lng. lng)
          (each_long a e (λ r. IsClean w.vars (entry_at b r).lits) (λ r lt lng. clean_new w.vars a e r lt (h.attached.clean r lng))
          (λ lng. clean_last));
      watched = record {
        rule = λ r i p lng two before at. ⊎_elim
            (λ (old : r < n). watched_old a t e r i p h.watched old (long_old a e r old lng) two before at)
            (λ (new : r ≡ n).
            subst (λ (z : ℕ). HasTrueBy b t.entries z (assigned_at t.entries p).level) (sym new)
            (rule i p two before (at ∙ ap (λ (z : ℕ). negated (literal_of b z i)) new)))
            (kinds r lng);
      };
      gone = h.gone;
      present = h.present;
    }

-- a live clause of two or more literals, added last
pub long_added : (a : Entries) (e : Entry) → e.live ≡ true → 2 ≤ length e.lits → IsLong (with_new a e) (length a)
long_added a e live long = record {
  live = record { present = omega (arith, length_push a e); live = ap (λ (x : Entry). x.live) (entry_new a e) ∙ live };
  long = subst (λ (x : Entry). 2 ≤ length x.lits) (sym (entry_new a e)) long;
}

-- attached before anything was propagated
pub ready_first : (a b : Entries) (w v : WatchLists) (t : TrailState) (e : Entry) (r : ℕ) → IsReady a w t → t.gone ≡ 0
    → e.live ≡ true → 2 ≤ length e.lits → IsClean w.vars e.lits → b ≡ with_new a e → r ≡ length a → v ≡ with_clause w b r → IsReady b v t
ready_first a b w v t e r h none live long clean is_arena place is_lists =
    let done = ready_added a w t e h (long_added a e live long) clean (λ i p two before at. absurd (omega (arith, before, none))) in
    subst (λ (u : WatchLists). IsReady b u t) (sym is_lists)
    (subst (λ (n : ℕ). IsReady b (with_clause w b n) t) (sym place)
    (subst (λ (z : Entries). IsReady z (with_clause w z (length a)) t) (sym is_arena) done))

negated_other_parts : (v : ℕ) (b : Bool) (A : Type 0)
    → (let l : Literal = record { var = v; positive = b } in l) ≡ negated (record { var = v; positive = b }) → A
negated_other_parts v true A e = absurd (false≢true (ap (λ (l : Literal). l.positive) (sym e)))
negated_other_parts v false A e = absurd (false≢true (ap (λ (l : Literal). l.positive) e))

-- no literal is its negation
pub negated_other : (l : Literal) → l ≡ negated l → ⊥
negated_other l = negated_other_parts l.var l.positive ⊥

-- a literal and its negation are not both true
pub not_both : (t : TrailState) (l : Literal) (j k : ℕ) → IsTrail t → j < length t.entries → k < length t.entries
    → (assigned_at t.entries j).lit ≡ l → (assigned_at t.entries k).lit ≡ negated l → ⊥
not_both t l j k trail first second yes' no' =
    let same : j ≡ k = trail.distinct j k first second
    (ap (λ (x : Literal). x.var) yes' ∙ ap (λ (x : Literal). x.var) (sym no')) in
    negated_other l (sym yes' ∙ ap (λ (n : ℕ). (assigned_at t.entries n).lit) same ∙ no')

-- the rule for a clause whose first literal is true, no later than its second became false
pub watches_allow : (b : Entries) (t : TrailState) (r limit : ℕ) → IsTrail t → IsLong b r → HasLiteralBy t.entries limit (literal_of b r 0)
    → ((p : ℕ) → p < t.gone → (assigned_at t.entries p).lit ≡ negated (literal_of b r 1) → limit ≤ (assigned_at t.entries p).level)
    → (i p : ℕ) → i < 2 → p < t.gone → (assigned_at t.entries p).lit ≡ negated (literal_of b r i)
    → HasTrueBy b t.entries r (assigned_at t.entries p).level
watches_allow b t r limit trail long made late i p two before at =
    two_cases i (HasTrueBy b t.entries r (assigned_at t.entries p).level) two
    (λ zeroth. absurd (not_both t (literal_of b r 0) made.place p trail made.within (omega (arith, trail.gone)) made.lit
    (at ∙ ap (λ (n : ℕ). negated (literal_of b r n)) zeroth)))
    (λ first.
    let le = late p before (at ∙ ap (λ (n : ℕ). negated (literal_of b r n)) first) in record {
      lit = literal_of b r 0;
      member = literal_member b r 0 (omega (arith, long.long));
      made = record { place = made.place; within = made.within; lit = made.lit; level = omega (arith, made.level) };
    })

-- ---- nothing was left to propagate before the present level

below_gone : (a : Entries) (w : WatchLists) (t : TrailState) (l : Literal) → IsReady a w t → (h : HasLiteralBelow t.entries t.level l)
    → h.place < t.gone
below_gone a w t l g h =
    ⊎_elim
    (λ (early : h.place < t.gone). early)
    (λ (late : t.gone ≤ h.place). absurd (omega (arith, g.present h.place late h.within, h.below)))
    (cases_lt h.place t.gone)

-- a watch that is false below the level comes with a literal that is true below it
true_below : (a : Entries) (w : WatchLists) (t : TrailState) (r i : ℕ) → IsReady a w t → IsLong a r → i < 2
    → (h : HasLiteralBelow t.entries t.level (negated (literal_of a r i))) → HasTrueBy a t.entries r (assigned_at t.entries h.place).level
true_below a w t r i g long two h = g.watched.rule r i h.place long two (below_gone a w t (negated (literal_of a r i)) g h) h.lit

none_false : (a : Entries) (w : WatchLists) (t : TrailState) (r : ℕ) → IsReady a w t → IsTrail t → IsLong a r
    → ((l : Literal) → Contains (entry_at a r).lits l → HasLiteralBelow t.entries t.level (negated l)) → ⊥
none_false a w t r g trail long all =
    let first = all (literal_of a r 0) (literal_member a r 0 (omega (arith, long.long))) in
    let h = true_below a w t r 0 g long (omega arith) first in
    let n = all h.lit h.member in
    not_both t h.lit h.made.place n.place trail h.made.within n.within h.made.lit n.lit

-- the watch that is not the literal without value is false, and the literal that is true then isn't that one
other_watch : (a : Entries) (w : WatchLists) (t : TrailState) (r i : ℕ) (u : Literal) → IsReady a w t → IsTrail t → IsLong a r → i < 2
    → literal_of a r i ≢ u
    → ((k : ℕ) → k < length t.entries → (assigned_at t.entries k).lit.var ≡ u.var → t.level ≤ (assigned_at t.entries k).level)
    → ((l : Literal) → Contains (entry_at a r).lits l → l ≢ u → HasLiteralBelow t.entries t.level (negated l)) → ⊥
other_watch a w t r i u g trail long two apart unvalued others =
    let f = others (literal_of a r i) (literal_member a r i (omega (arith, long.long))) apart in
    let h = true_below a w t r i g long two f in
    literal_eq h.lit u ⊥
    (λ same. omega (arith, unvalued h.made.place h.made.within (ap (λ (l : Literal). l.var) (h.made.lit ∙ same)), h.made.level, f.below))
    (λ other.
    let n = others h.lit h.member other in
    not_both t h.lit h.made.place n.place trail h.made.within n.within h.made.lit n.lit)

pub settled_below : (a : Entries) (w : WatchLists) (t : TrailState) → IsReady a w t → IsTrail t → IsSettledBelow a t.entries t.level
settled_below a w t g trail = record {
  none_false = λ r long all. none_false a w t r g trail long all;
  none_unit = λ r u long member unvalued others.
      literal_eq (literal_of a r 0) u ⊥
      (λ first. other_watch a w t r 1 u g trail long (omega arith)
      (λ second.
      let same = (g.attached.clean r long).distinct 0 1 (omega (arith, long.long)) (omega (arith, long.long))
      (ap (λ (l : Literal). l.var) (first ∙ sym second)) in omega (arith, same)) unvalued others)
      (λ apart. other_watch a w t r 0 u g trail long (omega arith) apart unvalued others);
}
