-- A list of watches is gone through: what each step of it keeps.
use Rattle.std.proofs.Common.{◌≡◌, ◌≢◌, ℕ, ◌+◌, ◌-◌, ◌<◌, ◌≤◌, ◌⊎◌, Bool, true, false, not, eqb, List, [], ◌∷◌, ◌++◌, length, get_or}
use Rattle.std.proofs.Common.{swap_remove, Contains, refl, sym, ap, ◌∙◌, subst, inl, inr, ⊎_elim, arith}
use Rattle.std.specs.Int.{from_bool}
use Rattle.std.proofs.lemmas.List.{length_push, get_or_push, length-set}
use Rattle.std.proofs.lemmas.Bool.{cases_eq, cases_lt, false≢true}
use Rattle.cnf_core.specs.Literals.{Literal, negated, code_of, IsWithin}
use Rattle.clause_arena.specs.Entries.{Entry, Entries, no_literal, entry_at, len_of, literal_of, with_swap}
use Rattle.trail_core.specs.declared.entry.Assigned.{Assigned}
use Rattle.trail_core.specs.declared.entry.Reason.TheVariants.{Clause}
use Rattle.trail_core.specs.Trails.{no_entry, assigned_at, HasLiteral, IsFree, IsLeveled, IsTrail, TrailState, with_entry}
use Rattle.trail_core.proofs.Literals.{same_unless, other_unless}
use Rattle.watch_lists.specs.Watchers.{Watcher}
use Rattle.watch_lists.specs.Clauses.{IsLong, IsClean, IsReordered, HasTrueBy, IsFalsified, HasTrue}
use Rattle.trail_core.specs.TrueAndFalse.{HasLiteralBefore}
use Rattle.watch_lists.specs.Lists.{WatchLists, no_watch, list_of, watch_at, with_watch, IsSound, HasWatchFrom, IsAttached}
use Rattle.watch_lists.specs.Steps.Lists.{with_watch_at, without_watch}
use Rattle.watch_lists.specs.Watching.{IsWatched, IsReady}
use Rattle.watch_lists.specs.Steps.Visiting.{IsOther, IsWatchPlace, AreFalseBelow, IsPending, IsVisiting, IsAdvanced, FateSays, ForceSays}
use Rattle.watch_lists.specs.Propagating.{IsPropagated}
use Rattle.watch_lists.specs.declared.step.Fate.{Fate}
use Rattle.watch_lists.specs.declared.step.Fate.TheVariants.{Keep, Move, Falsified, NoRoom}
use Rattle.watch_lists.proofs.Orders.{place_of, reordered_refl, reordered_trans, reordered_sym, reordered_swap, long_after, member_after}
use Rattle.watch_lists.proofs.Orders.{literal_member, literal_first, literal_other, at_unswapped}
use Rattle.watch_lists.proofs.Fronts.{IsFront, front_refl, front_push, front_trans, at_front, literal_kept, literal_pushed, true_kept}
use Rattle.watch_lists.proofs.Fronts.{true_by_kept, forced_kept, free_of_open, negated_twice}
use Rattle.watch_lists.proofs.Attached.{two_cases, literal_eq, has_set, has_removed, has_pushed, length-removed, list_set, list_unset}
use Rattle.watch_lists.proofs.Attached.{attached_set, attached_add, attached_remove, attached_swap}

-- ---- what was pushed

pub propagated_refl : (a : Entries) (t : TrailState) → IsPropagated a t t
propagated_refl a t =
    let f = front_refl t.entries in record {
      grown = f.grown;
      front = f.front;
      forced = λ k past lt. absurd (omega arith);
      levels = λ k past lt. absurd (omega arith);
      gone = omega arith;
      level = refl;
      vars = refl;
    }

pub front_of : (a : Entries) (t u : TrailState) → IsPropagated a t u → IsFront t.entries u.entries
front_of a t u p = record { grown = p.grown; front = p.front }

pub propagated_trans : (a b : Entries) (t u v : TrailState) → IsReordered a b → IsPropagated a t u → IsPropagated b u v
    → IsPropagated b t v
propagated_trans a b t u v o p q =
    let f = front_of a t u p in
    let g = front_of b u v q in
    let both = front_trans t.entries u.entries v.entries f g in record {
      grown = both.grown;
      front = both.front;
      forced = λ k past lt. ⊎_elim
          (λ (old : k < length u.entries). forced_kept a b u.entries v.entries k o g old (p.forced k past old))
          (λ (new : length u.entries ≤ k). q.forced k new lt)
          (cases_lt k (length u.entries));
      levels = λ k past lt. ⊎_elim
          (λ (old : k < length u.entries).
          ap (λ (x : Assigned). x.level) (at_front u.entries v.entries k g old) ∙ p.levels k past old)
          (λ (new : length u.entries ≤ k). q.levels k new lt ∙ p.level)
          (cases_lt k (length u.entries));
      gone = omega (arith, p.gone, q.gone);
      level = q.level ∙ p.level;
      vars = q.vars ∙ p.vars;
    }

pub advanced_refl : (a : Entries) (t : TrailState) → IsAdvanced a t a t
advanced_refl a t = record { arena = reordered_refl a; trail = propagated_refl a t; gone = refl }

pub advanced_trans : (a b c : Entries) (t u v : TrailState) → IsAdvanced a t b u → IsAdvanced b u c v → IsAdvanced a t c v
advanced_trans a b c t u v f g = record {
  arena = reordered_trans a b c f.arena g.arena;
  trail = propagated_trans b c t u v g.arena f.trail g.trail;
  gone = g.gone ∙ f.gone;
}

pub advanced_swap : (a : Entries) (t : TrailState) (r i j : ℕ) → r < length a → i < len_of a r → j < len_of a r
    → IsAdvanced a t (with_swap a r i j) t
advanced_swap a t r i j here first second = record {
  arena = reordered_swap a r i j here first second;
  trail = propagated_refl (with_swap a r i j) t;
  gone = refl;
}

-- ---- two literals exchanged

swap_members : (a : Entries) (r i j s : ℕ) (l : Literal) → r < length a → i < len_of a r → j < len_of a r → IsLong a s
    → Contains (entry_at a s).lits l → Contains (entry_at (with_swap a r i j) s).lits l
swap_members a r i j s l here first second long =
    member_after a (with_swap a r i j) s l (reordered_swap a r i j here first second) long.live

-- the rule, where it holds of the clause's new watches
watched_swap : (a : Entries) (t : TrailState) (r i j : ℕ) → IsWatched a t → r < length a → i < len_of a r → j < len_of a r
    → ((m p : ℕ) → m < 2 → p < t.gone → (assigned_at t.entries p).lit ≡ negated (literal_of (with_swap a r i j) r m)
    → HasTrueBy a t.entries r (assigned_at t.entries p).level)
    → IsWatched (with_swap a r i j) t
watched_swap a t r i j h here first second rule =
    let b = with_swap a r i j in
    let back = reordered_sym a b (reordered_swap a r i j here first second) in record {
      rule = λ s m p long two lt is.
          let was = long_after b a s back long in
          let level = (assigned_at t.entries p).level in
          true_by_kept a b t.entries t.entries s level (λ l. swap_members a r i j s l here first second was) (front_refl t.entries)
          (⊎_elim
          (λ (at : s ≡ r).
          subst (λ (z : ℕ). HasTrueBy a t.entries z level) (sym at)
          (rule m p two lt (is ∙ ap (λ (z : ℕ). negated (literal_of b z m)) at)))
          (λ (other : s ≢ r).
          h.rule s m p was two lt
          (is ∙ ap (λ (e : Entry). negated (get_or e.lits m no_literal)) (at_unswapped a r i j s other)))
          (cases_eq s r));
    }

pending_swap : (a : Entries) (es : List Assigned) (w : WatchLists) (f : Literal) (start r i j : ℕ) → IsPending a es w f start
    → r < length a → i < len_of a r → j < len_of a r
    → ((m : ℕ) → m < 2 → literal_of (with_swap a r i j) r m ≡ f → HasTrue a es r ⊎ HasWatchFrom (list_of w f) r start)
    → IsPending (with_swap a r i j) es w f start
pending_swap a es w f start r i j h here first second rest =
    let b = with_swap a r i j in
    let back = reordered_sym a b (reordered_swap a r i j here first second) in record {
      rest = λ s m long two is.
          let was = long_after b a s back long in
          let old : HasTrue a es s ⊎ HasWatchFrom (list_of w f) s start =
          ⊎_elim
          (λ (at : s ≡ r).
          subst (λ (z : ℕ). HasTrue a es z ⊎ HasWatchFrom (list_of w f) z start) (sym at)
          (rest m two (ap (λ (z : ℕ). literal_of b z m) (sym at) ∙ is)))
          (λ (other : s ≢ r).
          h.rest s m was two (ap (λ (e : Entry). get_or e.lits m no_literal) (sym (at_unswapped a r i j s other)) ∙ is))
          (cases_eq s r) in
          ⊎_elim
          (λ (yes : HasTrue a es s).
          inl (true_kept a b es es s (λ l. swap_members a r i j s l here first second was) (front_refl es) yes))
          (λ (later : HasWatchFrom (list_of w f) s start). inr later)
          old;
    }

-- ---- the watch of a place is done

pending_next : (a : Entries) (es : List Assigned) (w v : WatchLists) (f : Literal) (start r : ℕ) → IsPending a es w f start
    → (watch_at w f start).clause ≡ r → HasTrue a es r
    → ((s : ℕ) → HasWatchFrom (list_of w f) s (start + 1) → HasWatchFrom (list_of v f) s (start + 1))
    → IsPending a es v f (start + 1)
pending_next a es w v f start r h is made kept = record {
  rest = λ s m long two at. ⊎_elim
      (λ (yes : HasTrue a es s). inl yes)
      (λ (later : HasWatchFrom (list_of w f) s start). ⊎_elim
      (λ (here : later.place ≡ start).
      let same : r ≡ s = sym is ∙ ap (λ (n : ℕ). (watch_at w f n).clause) (sym here) ∙ later.clause in
      inl (subst (HasTrue a es) same made))
      (λ (past : later.place ≢ start).
      inr (kept s (record { place = later.place; from = omega (arith, later.from); within = later.within; clause = later.clause })))
      (cases_eq later.place start))
      (h.rest s m long two at);
}

-- the blocker is true
pub visiting_blocked : (a : Entries) (w : WatchLists) (t : TrailState) (f : Literal) (start : ℕ) → IsVisiting a w t f start
    → start < length (list_of w f) → HasLiteral t.entries (watch_at w f start).blocker → IsVisiting a w t f (start + 1)
visiting_blocked a w t f start v lt made =
    let x = watch_at w f start in
    let s : IsSound a f x = v.ready.attached.sound f start lt in record {
      ready = v.ready;
      made_false = v.made_false;
      pending = pending_next a t.entries w w f start x.clause v.pending refl
          (record { lit = x.blocker; member = s.blocker; made = made }) (λ s later. later);
    }

-- a watch of a clause that has to be looked at
abbrev pub unmarked : ℕ → Literal → Watcher
unmarked r l = record { clause = r; blocker = l; binary = false }

-- the clause has a true literal, which becomes the blocker
pub visiting_set : (a : Entries) (w : WatchLists) (t : TrailState) (f : Literal) (start r : ℕ) (l : Literal) → IsVisiting a w t f start
    → IsWithin w.vars f → start < length (list_of w f) → (watch_at w f start).clause ≡ r → IsLong a r
    → Contains (entry_at a r).lits l → HasLiteral t.entries l
    → IsVisiting a (with_watch_at w f start (unmarked r l)) t f (start + 1)
visiting_set a w t f start r l v within lt is long member made =
    let x : Watcher = unmarked r l in
    let g = v.ready in
    let now = list_set w f (Rattle.std.proofs.Common.set (list_of w f) start x) g.attached.size within in record {
      ready = record {
        vars = g.vars;
        attached = attached_set a w f start x g.attached within lt (sym is)
            (record { long = long; blocker = member; pair = λ two. absurd (false≢true two) });
        watched = g.watched;
        gone = g.gone;
        present = g.present;
      };
      made_false = v.made_false;
      pending = pending_next a t.entries w (with_watch_at w f start x) f start r v.pending is
          (record { lit = l; member = member; made = made })
          (λ s later. subst (λ (xs : List Watcher). HasWatchFrom xs s (start + 1)) (sym now)
          (has_set (list_of w f) start s (start + 1) x lt (sym is) later));
    }

-- ---- a watch is taken out

removed_pending : (a : Entries) (es : List Assigned) (w : WatchLists) (f : Literal) (start : ℕ) → IsPending a es w f start
    → IsAttached a w → IsWithin w.vars f → start < length (list_of w f)
    → ((m : ℕ) → m < 2 → literal_of a (watch_at w f start).clause m ≢ f)
    → IsPending a es (without_watch w f start) f start
removed_pending a es w f start h g within lt apart =
    let now = list_set w f (swap_remove (list_of w f) start no_watch) g.size within in record {
      rest = λ s m long two is. ⊎_elim
          (λ (yes : HasTrue a es s). inl yes)
          (λ (later : HasWatchFrom (list_of w f) s start).
          inr (subst (λ (xs : List Watcher). HasWatchFrom xs s start) (sym now)
          (has_removed (list_of w f) start s start lt
          (λ same. apart m two (ap (λ (z : ℕ). literal_of a z m) same ∙ is)) (omega arith) later)))
          (h.rest s m long two is);
    }

-- one whose clause doesn't watch the literal
pub visiting_removed : (a : Entries) (w : WatchLists) (t : TrailState) (f : Literal) (start : ℕ) → IsVisiting a w t f start
    → IsWithin w.vars f → start < length (list_of w f)
    → ((m : ℕ) → m < 2 → literal_of a (watch_at w f start).clause m ≢ f)
    → IsVisiting a (without_watch w f start) t f start
visiting_removed a w t f start v within lt apart =
    let g = v.ready in record {
      ready = record {
        vars = g.vars;
        attached = attached_remove a w f start g.attached within lt apart;
        watched = g.watched;
        gone = g.gone;
        present = g.present;
      };
      made_false = v.made_false;
      pending = removed_pending a t.entries w f start v.pending g.attached within lt apart;
    }

pub length-without : (w : WatchLists) (f : Literal) (start : ℕ) → Rattle.watch_lists.specs.Lists.IsSized w → IsWithin w.vars f
    → start < length (list_of w f) → length (list_of (without_watch w f start) f) + 1 ≡ length (list_of w f)
length-without w f start size within lt =
    ap (λ (xs : List Watcher). length xs + 1) (list_set w f (swap_remove (list_of w f) start no_watch) size within)
    ∙ length-removed (list_of w f) start lt

-- ---- a watch moves to a literal that isn't false

distinct_literals : (n : ℕ) (a : Entries) (r i j : ℕ) → IsClean n (entry_at a r).lits → i < len_of a r → j < len_of a r → i ≢ j
    → literal_of a r i ≢ literal_of a r j
distinct_literals n a r i j c first second apart same = apart (c.distinct i j first second (ap (λ (l : Literal). l.var) same))

-- one of the first two places is the one or the other
pair_cases : (m p q : ℕ) (A : Type 0) → m < 2 → p + q ≡ 1 → (m ≡ q → A) → (m ≡ p → A) → A
pair_cases m p q A lt two other one = ⊎_elim one (λ (ne : m ≢ p). other (omega (arith, two))) (cases_eq m p)

-- with the watch in the new list, and the literals exchanged
visiting_exchanged : (a : Entries) (w : WatchLists) (t : TrailState) (f : Literal) (start r p q k : ℕ) (x : Watcher)
    → IsVisiting a w t f start → IsWithin w.vars f → IsLong a r → p + q ≡ 1 → literal_of a r p ≡ f → IsOther a t.entries r k
    → x.clause ≡ r → IsSound a (literal_of a r k) x
    → IsVisiting (with_swap a r p k) (with_watch w (literal_of a r k) x) t f start
visiting_exchanged a w t f start r p q k x v within long two held o clause sound =
    let g = v.ready in
    let l = literal_of a r k in
    let u = with_watch w l x in
    let b = with_swap a r p k in
    let here = long.live.present in
    let here_p : p < len_of a r = omega (arith, long.long, two) in
    let here_q : q < len_of a r = omega (arith, long.long, two) in
    let clean = g.attached.clean r long in
    let behind = o.behind in
    let is_other : l ≢ f = λ e. distinct_literals w.vars a r k p clean o.within here_p (λ s. omega (arith, s, two, behind)) (e ∙ sym held) in
    let same : list_of u f ≡ list_of w f = list_unset w l f (list_of w l ++ x ∷ []) (λ e. is_other (sym e)) in
    let added = attached_add a w l x g.attached (clean.within k o.within) sound in
    let kept : literal_of b r q ≡ literal_of a r q = literal_other a r p k q here here_p o.within (λ e. omega (arith, e, two))
    (λ e. omega (arith, e, two, behind)) in
    let new : literal_of b r p ≡ l = literal_first a r p k here here_p o.within in
    let listed : HasWatchFrom (list_of u l) r 0 =
    subst (λ (xs : List Watcher). HasWatchFrom xs r 0) (sym (list_set w l (list_of w l ++ x ∷ []) g.attached.size
    (clean.within k o.within)))
    (subst (λ (z : ℕ). HasWatchFrom (list_of w l ++ x ∷ []) z 0) clause (has_pushed (list_of w l) x)) in
    let away : (m : ℕ) → m < 2 → literal_of b r m ≢ f = λ m lt is. pair_cases m p q ⊥ lt two
    (λ at. distinct_literals w.vars a r q p clean here_q here_p (λ s. omega (arith, s, two))
    (sym kept ∙ ap (λ (n : ℕ). literal_of b r n) (sym at) ∙ is ∙ sym held))
    (λ at. is_other (sym new ∙ ap (λ (n : ℕ). literal_of b r n) (sym at) ∙ is)) in
    let was : IsPending a t.entries u f start = record {
      rest = λ s m lng lt is. subst (λ (xs : List Watcher). HasTrue a t.entries s ⊎ HasWatchFrom xs s start) (sym same)
          (v.pending.rest s m lng lt is);
    } in record {
      ready = record {
        vars = g.vars;
        attached = attached_swap a u r p k added here here_p o.within
            (λ m lt. pair_cases m p q (HasWatchFrom (list_of u (literal_of b r m)) r 0) lt two
            (λ at. subst (λ (n : ℕ). HasWatchFrom (list_of u (literal_of b r n)) r 0) (sym at)
            (subst (λ (z : Literal). HasWatchFrom (list_of u z) r 0) (sym kept) (added.complete r q long (omega (arith, two)))))
            (λ at. subst (λ (n : ℕ). HasWatchFrom (list_of u (literal_of b r n)) r 0) (sym at)
            (subst (λ (z : Literal). HasWatchFrom (list_of u z) r 0) (sym new) listed)));
        watched = watched_swap a t r p k g.watched here here_p o.within
            (λ m e below lt is. pair_cases m p q (HasTrueBy a t.entries r (assigned_at t.entries e).level) below two
            (λ at. g.watched.rule r q e long (omega (arith, two)) lt
            (is ∙ ap (λ (n : ℕ). negated (literal_of b r n)) at ∙ ap negated kept))
            (λ at. absurd (o.not_false
            (record {
              place = e;
              within = omega (arith, g.gone);
              lit = is ∙ ap (λ (n : ℕ). negated (literal_of b r n)) at ∙ ap negated new;
            }))));
        gone = g.gone;
        present = g.present;
      };
      made_false = v.made_false;
      pending = pending_swap a t.entries u f start r p k was here here_p o.within (λ m lt is. absurd (away m lt is));
    }

pub visiting_moved : (a : Entries) (w : WatchLists) (t : TrailState) (f : Literal) (start r p q k : ℕ) (x : Watcher)
    → IsVisiting a w t f start → IsWithin w.vars f → start < length (list_of w f) → (watch_at w f start).clause ≡ r
    → IsLong a r → p + q ≡ 1 → literal_of a r p ≡ f → IsOther a t.entries r k → x.clause ≡ r → IsSound a (literal_of a r k) x
    → (length (list_of (without_watch (with_watch w (literal_of a r k) x) f start) f) + 1 ≡ length (list_of w f))
    × IsVisiting (with_swap a r p k) (without_watch (with_watch w (literal_of a r k) x) f start) t f start
visiting_moved a w t f start r p q k x v within lt is long two held o clause sound =
    let l = literal_of a r k in
    let u = with_watch w l x in
    let b = with_swap a r p k in
    let here = long.live.present in
    let here_p : p < len_of a r = omega (arith, long.long, two) in
    let here_q : q < len_of a r = omega (arith, long.long, two) in
    let behind = o.behind in
    let clean = v.ready.attached.clean r long in
    let is_other : l ≢ f = λ e. distinct_literals w.vars a r k p clean o.within here_p (λ s. omega (arith, s, two, behind)) (e ∙ sym held) in
    let same : list_of u f ≡ list_of w f = list_unset w l f (list_of w l ++ x ∷ []) (λ e. is_other (sym e)) in
    let mid = visiting_exchanged a w t f start r p q k x v within long two held o clause sound in
    let fits : start < length (list_of u f) = omega (arith, ap (λ (xs : List Watcher). length xs) same) in
    let at_clause : (watch_at u f start).clause ≡ r = ap (λ (xs : List Watcher). (get_or xs start no_watch).clause) same ∙ is in
    let kept : literal_of b r q ≡ literal_of a r q = literal_other a r p k q here here_p o.within (λ e. omega (arith, e, two))
    (λ e. omega (arith, e, two, behind)) in
    let new : literal_of b r p ≡ l = literal_first a r p k here here_p o.within in
    let away : (m : ℕ) → m < 2 → literal_of b r m ≢ f = λ m below e. pair_cases m p q ⊥ below two
    (λ at. distinct_literals w.vars a r q p clean here_q here_p (λ s. omega (arith, s, two))
    (sym kept ∙ ap (λ (n : ℕ). literal_of b r n) (sym at) ∙ e ∙ sym held))
    (λ at. is_other (sym new ∙ ap (λ (n : ℕ). literal_of b r n) (sym at) ∙ e)) in
    let done = visiting_removed b u t f start mid within fits
    (λ m below e. away m below (ap (λ (z : ℕ). literal_of b z m) (sym at_clause) ∙ e)) in
    (length-without u f start mid.ready.attached.size within fits ∙ ap (λ (xs : List Watcher). length xs) same, done)

-- ---- all literals but one of the first two are false

rest_false : (a : Entries) (es : List Assigned) (r p q : ℕ) (f : Literal) → p + q ≡ 1 → literal_of a r p ≡ f → HasLiteral es (negated f)
    → AreFalseBelow a es r (len_of a r) → (l : Literal) → Contains (entry_at a r).lits l → l ≢ literal_of a r q
    → HasLiteral es (negated l)
rest_false a es r p q f two held made h l member other =
    let at_place = place_of a r l member in
    ⊎_elim
    (λ (at : at_place.place ≡ q). absurd (other (sym at_place.lit ∙ ap (λ (n : ℕ). literal_of a r n) at)))
    (λ (not_q : at_place.place ≢ q). ⊎_elim
    (λ (at : at_place.place ≡ p).
    subst (λ (k : Literal). HasLiteral es (negated k)) (sym held ∙ ap (λ (n : ℕ). literal_of a r n) (sym at) ∙ at_place.lit) made)
    (λ (not_p : at_place.place ≢ p).
    subst (λ (k : Literal). HasLiteral es (negated k)) at_place.lit (h.each at_place.place (omega (arith, two)) at_place.within))
    (cases_eq at_place.place p))
    (cases_eq at_place.place q)

-- all literals of a live clause but one are false, and that one isn't true
pub record IsLast (a : Entries) (t : TrailState) (r : ℕ) (l : Literal) : Type 0 where
  pub long : IsLong a r
  pub member : Contains (entry_at a r).lits l
  pub others : (k : Literal) → Contains (entry_at a r).lits k → k ≢ l → HasLiteral t.entries (negated k)
  pub not_true : HasLiteral t.entries l → ⊥

falsified : (a : Entries) (t : TrailState) (r : ℕ) (l : Literal) → IsLast a t r l → HasLiteral t.entries (negated l)
    → IsFalsified a t.entries r
falsified a t r l h made = record {
  live = h.long.live;
  all_false = λ k member. literal_eq k l (HasLiteral t.entries (negated k))
      (λ same. subst (λ (n : Literal). HasLiteral t.entries (negated n)) (sym same) made)
      (λ other. h.others k member other);
}

-- it is pushed
visiting_pushed : (a : Entries) (w : WatchLists) (t : TrailState) (f : Literal) (start r : ℕ) (l : Literal) → IsVisiting a w t f start
    → (watch_at w f start).clause ≡ r → IsLast a t r l → IsVisiting a w (with_entry t l t.level (Clause r)) f (start + 1)
visiting_pushed a w t f start r l v is last =
    let g = v.ready in
    let x : Assigned = record { lit = l; level = t.level; reason = Clause r } in
    let u = with_entry t l t.level (Clause r) in
    let front = front_push t.entries x in
    let size : length u.entries ≡ length t.entries + 1 = length_push t.entries x in
    let still : IsPending a u.entries w f start = record {
      rest = λ s m lng two at. ⊎_elim
          (λ (yes : HasTrue a t.entries s). inl (true_kept a a t.entries u.entries s (λ l h. h) front yes))
          (λ (later : HasWatchFrom (list_of w f) s start). inr later)
          (v.pending.rest s m lng two at);
    } in record {
      ready = record {
        vars = g.vars;
        attached = g.attached;
        watched = record {
          rule = λ s m p lng two before at.
              let old : assigned_at u.entries p ≡ assigned_at t.entries p =
              at_front t.entries u.entries p front (omega (arith, g.gone)) in
              subst (λ (e : Assigned). HasTrueBy a u.entries s e.level) (sym old)
              (true_by_kept a a t.entries u.entries s (assigned_at t.entries p).level (λ l h. h) front
              (g.watched.rule s m p lng two before (ap (λ (e : Assigned). e.lit) (sym old) ∙ at)));
        };
        gone = omega (arith, g.gone);
        present = λ k past within. ⊎_elim
            (λ (old : k < length t.entries).
            ap (λ (e : Assigned). e.level) (at_front t.entries u.entries k front old) ∙ g.present k past old)
            (λ (new : length t.entries ≤ k).
            ap (λ (e : Assigned). e.level) (get_or_push t.entries x no_entry k (omega arith)))
            (cases_lt k (length t.entries));
      };
      made_false = literal_kept t.entries u.entries (negated f) front v.made_false;
      pending = pending_next a u.entries w w f start r still is
          (record { lit = l; member = last.member; made = literal_pushed t.entries x })
          (λ s later. later);
    }

before_end : (es fs : List Assigned) (l : Literal) (k : ℕ) → IsFront es fs → k ≡ length es → HasLiteral es l → HasLiteralBefore fs k l
before_end es fs l k front end h = record {
  place = h.place;
  before = omega (arith, h.within);
  lit = ap (λ (x : Assigned). x.lit) (at_front es fs h.place front h.within) ∙ h.lit;
}

advanced_pushed : (a : Entries) (t : TrailState) (r : ℕ) (l : Literal) → IsLast a t r l → IsFree t.entries l.var
    → IsAdvanced a t a (with_entry t l t.level (Clause r))
advanced_pushed a t r l last free =
    let x : Assigned = record { lit = l; level = t.level; reason = Clause r } in
    let u = with_entry t l t.level (Clause r) in
    let front = front_push t.entries x in
    let size : length u.entries ≡ length t.entries + 1 = length_push t.entries x in
    let new : (k : ℕ) → length t.entries ≤ k → k < length u.entries → assigned_at u.entries k ≡ x =
    λ k past lt. get_or_push t.entries x no_entry k (omega arith) in record {
      arena = reordered_refl a;
      trail = record {
        grown = front.grown;
        front = front.front;
        forced = λ k past lt.
            let is = new k past lt in
            let end : k ≡ length t.entries = omega arith in
            let lit : (assigned_at u.entries k).lit ≡ l = ap (λ (e : Assigned). e.lit) is in record {
              clause = r;
              reason = ap (λ (e : Assigned). e.reason) is;
              live = last.long.live;
              member = subst (λ (n : Literal). Contains (entry_at a r).lits n) (sym lit) last.member;
              free = λ j before same. free j (omega arith)
                  (ap (λ (e : Assigned). e.lit.var) (sym (at_front t.entries u.entries j front (omega arith))) ∙ same
                  ∙ ap (λ (n : Literal). n.var) lit);
              others = λ n member other. before_end t.entries u.entries (negated n) k front end
                  (last.others n member (λ e. other (e ∙ sym lit)));
            };
        levels = λ k past lt. ap (λ (e : Assigned). e.level) (new k past lt);
        gone = omega arith;
        level = refl;
        vars = refl;
      };
      gone = refl;
    }

-- it is pushed, or it is false too
pub forced : (fate : Fate) (a : Entries) (w : WatchLists) (t u : TrailState) (f : Literal) (start r : ℕ) (l : Literal)
    → IsVisiting a w t f start → (watch_at w f start).clause ≡ r → IsLast a t r l → ForceSays fate t u l r
    → IsAdvanced a t a u × FateSays fate a w w u f start
forced Keep a w t u f start r l v is last says =
    let free = free_of_open t.entries l last.not_true says.0 in
    subst (λ (z : TrailState). IsAdvanced a t a z × FateSays Keep a w w z f start) (sym says.1)
    (advanced_pushed a t r l last free, (refl, visiting_pushed a w t f start r l v is last))
forced Move a w t u f start r l v is last says = absurd says
forced (Falsified s) a w t u f start r l v is last says =
    subst (λ (z : TrailState). IsAdvanced a t a z × (IsReady a w z × IsFalsified a z.entries s)) (sym says.2)
    (advanced_refl a t, (v.ready, subst (IsFalsified a t.entries) (sym says.1) (falsified a t r l last says.0)))
forced NoRoom a w t u f start r l v is last says = absurd says

-- the blocker's variable is one of the trail's
pub blocker_within : (a : Entries) (w : WatchLists) (t : TrailState) (f : Literal) (start : ℕ) (x : Watcher) → IsVisiting a w t f start
    → start < length (list_of w f) → x ≡ watch_at w f start → IsWithin t.vars x.blocker
blocker_within a w t f start x v lt is =
    let g = v.ready in
    let s : IsSound a f x = subst (IsSound a f) (sym is) (g.attached.sound f start lt) in
    let p = place_of a x.clause x.blocker s.blocker in
    subst (IsWithin t.vars) p.lit (subst (λ (n : ℕ). IsWithin n (literal_of a x.clause p.place)) g.vars
    ((g.attached.clean x.clause s.long).within p.place p.within))

-- the clause of a watch that says all of it
pub last_paired : (a : Entries) (w : WatchLists) (t : TrailState) (f : Literal) (start : ℕ) (x : Watcher) → IsVisiting a w t f start
    → start < length (list_of w f) → x ≡ watch_at w f start → x.binary ≡ true → (HasLiteral t.entries x.blocker → ⊥)
    → IsLast a t x.clause x.blocker
last_paired a w t f start x v lt is two not_true =
    let s : IsSound a f x = subst (IsSound a f) (sym is) (v.ready.attached.sound f start lt) in record {
      long = s.long;
      member = s.blocker;
      others = λ k member other. subst (λ (n : Literal). HasLiteral t.entries (negated n)) (sym (s.pair two k member other)) v.made_false;
      not_true = not_true;
    }

-- ---- the clause of a watch is settled

pub long_of : (a : Entries) (w : WatchLists) (t : TrailState) (f : Literal) (start r : ℕ) → IsVisiting a w t f start
    → start < length (list_of w f) → (watch_at w f start).clause ≡ r → IsLong a r
long_of a w t f start r v lt is =
    subst (IsLong a) is (v.ready.attached.sound f start lt).long

-- the other literal that the clause watches, where the rest is false
pub last_other : (a : Entries) (w : WatchLists) (t : TrailState) (f : Literal) (start r p q : ℕ) (l : Literal)
    → IsVisiting a w t f start → start < length (list_of w f) → (watch_at w f start).clause ≡ r → p + q ≡ 1 → literal_of a r p ≡ f
    → AreFalseBelow a t.entries r (len_of a r) → l ≡ literal_of a r q → (HasLiteral t.entries l → ⊥) → IsLast a t r l
last_other a w t f start r p q l v lt is two held rest other not_true =
    let long = long_of a w t f start r v lt is in record {
      long = long;
      member = subst (λ (n : Literal). Contains (entry_at a r).lits n) (sym other) (literal_member a r q (omega (arith, long.long, two)));
      others = λ k member apart. rest_false a t.entries r p q f two held v.made_false rest k member (λ e. apart (e ∙ sym other));
      not_true = not_true;
    }

pub settled_true : (a : Entries) (w v : WatchLists) (t : TrailState) (f : Literal) (start r p q : ℕ) (l : Literal)
    → IsVisiting a w t f start → IsWithin w.vars f → start < length (list_of w f) → (watch_at w f start).clause ≡ r
    → p + q ≡ 1 → l ≡ literal_of a r q → HasLiteral t.entries l → v ≡ with_watch_at w f start (unmarked r l)
    → (length (list_of v f) ≡ length (list_of w f)) × IsVisiting a v t f (start + 1)
settled_true a w v t f start r p q l h within lt is two other made new =
    let x : Watcher = unmarked r l in
    let long = long_of a w t f start r h lt is in
    let member = subst (λ (k : Literal). Contains (entry_at a r).lits k) (sym other) (literal_member a r q (omega (arith, long.long, two))) in
    let u = with_watch_at w f start x in
    let size : length (list_of u f) ≡ length (list_of w f) =
    ap (λ (xs : List Watcher). length xs) (list_set w f (Rattle.std.proofs.Common.set (list_of w f) start x) h.ready.attached.size within)
    ∙ length-set (list_of w f) start x in
    subst (λ (z : WatchLists). (length (list_of z f) ≡ length (list_of w f)) × IsVisiting a z t f (start + 1)) (sym new)
    (size, visiting_set a w t f start r l h within lt is long member made)

-- the watch moves
pub record IsMoved (a b : Entries) (w v : WatchLists) (t : TrailState) (f : Literal) (start r p q k : ℕ) : Type 0 where
  pub visiting : IsVisiting a w t f start
  pub within : IsWithin w.vars f
  pub place : start < length (list_of w f)
  pub watch : (watch_at w f start).clause ≡ r
  pub two : p + q ≡ 1
  pub held : literal_of a r p ≡ f
  pub other : IsOther a t.entries r k
  pub arena : b ≡ with_swap a r p k
  pub lists : v ≡ without_watch (with_watch w (literal_of a r k) (unmarked r (literal_of a r q))) f start

pub moved_arena : (a b : Entries) (w v : WatchLists) (t : TrailState) (f : Literal) (start r p q k : ℕ)
    → IsMoved a b w v t f start r p q k → IsAdvanced a t b t
moved_arena a b w v t f start r p q k m =
    let long = long_of a w t f start r m.visiting m.place m.watch in
    subst (λ (z : Entries). IsAdvanced a t z t) (sym m.arena)
    (advanced_swap a t r p k long.live.present (omega (arith, long.long, m.two)) m.other.within)

pub moved_watch : (a b : Entries) (w v : WatchLists) (t : TrailState) (f : Literal) (start r p q k : ℕ)
    → IsMoved a b w v t f start r p q k → (length (list_of v f) + 1 ≡ length (list_of w f)) × IsVisiting b v t f start
moved_watch a b w v t f start r p q k m =
    let long = long_of a w t f start r m.visiting m.place m.watch in
    let x : Watcher = unmarked r (literal_of a r q) in
    let done = visiting_moved a w t f start r p q k x m.visiting m.within m.place m.watch long m.two m.held m.other refl
    (record { long = long; blocker = literal_member a r q (omega (arith, long.long, m.two)); pair = λ two. absurd (false≢true two) }) in
    let u = without_watch (with_watch w (literal_of a r k) x) f start in
    subst (λ (z : WatchLists). (length (list_of z f) + 1 ≡ length (list_of w f)) × IsVisiting b z t f start) (sym m.lists)
    (subst (λ (z : Entries). (length (list_of u f) + 1 ≡ length (list_of w f)) × IsVisiting z u t f start) (sym m.arena) done)

-- ---- the place of the false literal

pub place_found : (a : Entries) (r : ℕ) (k f : Literal) (b : Bool) (p : ℕ) → k ≡ literal_of a r 0
    → b ≡ not (eqb (code_of k) (code_of f)) → p ≡ from_bool b → IsWatchPlace a r f p
place_found a r k f true p first is at = record {
  watched = omega (arith, at);
  zeroth = λ e. absurd (omega (arith, e, at));
  first = λ e same. other_unless k f true is refl (first ∙ same);
}
place_found a r k f false p first is at = record {
  watched = omega (arith, at);
  zeroth = λ e. sym first ∙ same_unless k f false is refl;
  first = λ e. absurd (omega (arith, e, at));
}

-- the watch is out of date
pub outdated : (a : Entries) (w v : WatchLists) (t : TrailState) (f : Literal) (start r p : ℕ) → IsVisiting a w t f start
    → IsWithin w.vars f → start < length (list_of w f) → (watch_at w f start).clause ≡ r
    → IsWatchPlace a r f p → literal_of a r p ≢ f → v ≡ without_watch w f start
    → (length (list_of v f) + 1 ≡ length (list_of w f)) × IsVisiting a v t f start
outdated a w v t f start r p h within lt is found apart new =
    let second : p ≡ 1 = ⊎_elim
    (λ (at : p ≡ 0). absurd (apart (ap (λ (n : ℕ). literal_of a r n) at ∙ found.zeroth at)))
    (λ (past : p ≢ 0). omega (arith, found.watched))
    (cases_eq p 0) in
    let done = visiting_removed a w t f start h within lt
    (λ m two same.
    let same' : literal_of a r m ≡ f = ap (λ (z : ℕ). literal_of a z m) (sym is) ∙ same in
    two_cases m ⊥ two
    (λ at. found.first second (ap (λ (n : ℕ). literal_of a r n) (sym at) ∙ same'))
    (λ at. apart (ap (λ (n : ℕ). literal_of a r n) (second ∙ sym at) ∙ same'))) in
    subst (λ (z : WatchLists). (length (list_of z f) + 1 ≡ length (list_of w f)) × IsVisiting a z t f start) (sym new)
    (length-without w f start h.ready.attached.size within lt, done)

-- ---- the list is gone through

pub reach_kept : (w v : WatchLists) (t u : TrailState) (l : Literal) → IsWithin w.vars l → w.vars ≡ t.vars → u.vars ≡ t.vars
    → v.vars ≡ u.vars → IsWithin v.vars l
reach_kept w v t u l within before kept after = subst (λ (n : ℕ). IsWithin n l) (before ∙ sym kept ∙ sym after) within

pub level_below : (es : List Assigned) (level k : ℕ) → IsLeveled es level → k < length es → (assigned_at es k).level ≤ level
level_below es level k h lt =
    omega (arith, h.rises k (length es - 1) (omega arith) (omega arith), h.top (length es - 1) (omega arith))

true_of : (a : Entries) (w : WatchLists) (t : TrailState) (f : Literal) (r i : ℕ) → IsVisiting a w t f (length (list_of w f))
    → IsLong a r → i < 2 → literal_of a r i ≡ f → HasTrue a t.entries r
true_of a w t f r i v long two is =
    ⊎_elim
    (λ (done : HasTrue a t.entries r). done)
    (λ (later : HasWatchFrom (list_of w f) r (length (list_of w f))). absurd (omega (arith, later.from, later.within)))
    (v.pending.rest r i long two is)

-- the next entry counts as propagated
pub ready_next : (a : Entries) (w : WatchLists) (t u : TrailState) (f : Literal) → IsVisiting a w t f (length (list_of w f))
    → IsTrail t → t.gone < length t.entries → f ≡ negated (assigned_at t.entries t.gone).lit
    → u ≡ record t { gone = t.gone + 1 } → IsReady a w u
ready_next a w t u f v trail lt is new =
    let g = v.ready in
    let es = t.entries in
    let next : IsReady a w (record t { gone = t.gone + 1 }) = record {
      vars = g.vars;
      attached = g.attached;
      watched = record {
        rule = λ r i p long two before at. ⊎_elim
            (λ (old : p < t.gone). g.watched.rule r i p long two old at)
            (λ (past : t.gone ≤ p).
            let here : p ≡ t.gone = omega arith in
            let same : literal_of a r i ≡ f =
            sym (negated_twice (literal_of a r i)) ∙ ap negated (sym at)
            ∙ ap (λ (k : ℕ). negated (assigned_at es k).lit) here ∙ sym is in
            let made = true_of a w t f r i v long two same in record {
              lit = made.lit;
              member = made.member;
              made = record {
                place = made.made.place;
                within = made.made.within;
                lit = made.made.lit;
                level = omega (
                  arith,
                  level_below es t.level made.made.place trail.leveled made.made.within,
                  g.present p past (omega arith),
                );
              };
            })
            (cases_lt p t.gone);
      };
      gone = omega arith;
      present = λ k past within. g.present k (omega arith) within;
    } in
    subst (λ (z : TrailState). IsReady a w z) (sym new) next
