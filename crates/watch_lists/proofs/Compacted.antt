-- How a caller keeps arena, watches and trail ready for propagation where clauses are removed and the arena is compacted.
--
-- cleared_same, cleared_removed, cleared_trans     what removals leave
-- goes_down                                        what `Watches::follow` asks
-- ready_compacted                                  after `Watches::follow`
use Rattle.std.proofs.Common.{◌≡◌, ◌≢◌, ℕ, zero, suc, ◌+◌, ◌<◌, ◌≤◌, ◌⊎◌, Bool, cond, true, false, Option, Some, None, List, [], ◌∷◌, ◌++◌, length, get_or}
use Rattle.std.proofs.Common.{take, drop, map, count_by, Contains, refl, sym, ap, ◌∙◌, subst, inl, inr, ⊎_elim, not, arith, append-nil, length-append, length-take}
use Rattle.std.specs.List.{cons_option}
use Rattle.std.proofs.lemmas.List.{length-set, get_or-set_same, get_or-set_other, get_or-map, length-map, get_or_past, get_or_default}
use Rattle.std.proofs.lemmas.List.{get_or_append_left, get_or_push, length_push, take_all, take-append-drop}
use Rattle.std.proofs.lemmas.List.Elements.{filter_more, filter-append}
use Rattle.std.proofs.lemmas.List.Elements.{Contains-get_or}
use Rattle.std.proofs.lemmas.List.Sums.{length-filter}
use Rattle.std.proofs.lemmas.List.Filters.{length-filter_both}
use Rattle.std.proofs.lemmas.Option.{same_Some, none-some, cond_some}
use Rattle.cnf_core.proofs.Lists.{Contains-head, Contains-tail, Contains-cons_cases, Contains-nil}
use Rattle.std.proofs.lemmas.Bool.{cases_eq, cases_lt, false≢true}
use Rattle.cnf_core.specs.Literals.{Literal, code_of, negated}
use Rattle.clause_arena.specs.Entries.{Entry, Entries, no_entry, no_literal, entry_at, literal_of, is_live, without_clause, live_entries}
use Rattle.clause_arena.specs.Entries.{moved_to, move_of}
use Rattle.trail_core.specs.Trails.{TrailState, assigned_at}
use Rattle.watch_lists.specs.Watchers.{Watcher}
use Rattle.watch_lists.specs.Clauses.{IsLong, IsClean, HasTrueBy}
use Rattle.watch_lists.specs.Lists.{WatchLists, no_watch, HasWatchFrom, list_of, watch_at, IsSound, IsAttached}
use Rattle.watch_lists.specs.Moving.{GoDown, at_place, moved_watch, moved_list, moved_lists}
use Rattle.watch_lists.specs.Steps.Compacting.{IsCleared, IsCompacted}
use Rattle.watch_lists.specs.Watching.{IsReady}

-- ---- removals

pub cleared_same : (a : Entries) → IsCleared a a
cleared_same a = record { count = refl; same = λ r live. refl }

pub cleared_trans : (a b c : Entries) → IsCleared a b → IsCleared b c → IsCleared a c
cleared_trans a b c f g = record {
  count = g.count ∙ f.count;
  same = λ r live. g.same r live ∙ f.same r (ap (λ (e : Entry). e.live) (sym (g.same r live)) ∙ live);
}

pub cleared_removed : (a b : Entries) (d : ℕ) → b ≡ without_clause a d → IsCleared a b
cleared_removed a b d is =
    let x : Entry = record (entry_at a d) { live = false } in
    let size : length (without_clause a d) ≡ length a = length-set a d x in
    let dead : (r : ℕ) → r ≡ d → (entry_at (without_clause a d) r).live ≡ false = λ r at. ⊎_elim
    (λ (here : d < length a).
    ap (λ (k : ℕ). (entry_at (without_clause a d) k).live) at ∙ ap (λ (e : Entry). e.live) (get_or-set_same a d x no_entry here))
    (λ (past : length a ≤ d).
    ap (λ (e : Entry). e.live) (get_or_past (without_clause a d) r no_entry (omega (arith, size))))
    (cases_lt d (length a)) in
    subst (IsCleared a) (sym is) (record {
      count = size;
      same = λ r live. ⊎_elim
          (λ (at : r ≡ d). absurd (false≢true (sym (dead r at) ∙ live)))
          (λ (other : r ≢ d). get_or-set_other a d r x no_entry other)
          (cases_eq r d);
    })

-- ---- where clauses go

-- how many are live before a place
abbrev live_before : Entries → ℕ → ℕ
live_before a r = length (live_entries (take r a))

-- a live clause stands behind as many as are live before it
record IsAt (a : Entries) (r : ℕ) : Type 0 where
  within : live_before a r < length (live_entries a)
  same : entry_at (live_entries a) (live_before a r) ≡ entry_at a r

upto_here : (a : Entries) (r : ℕ) → r < length a → (entry_at a r).live ≡ true
    → live_entries (take (r + 1) a) ≡ live_entries (take r a) ++ entry_at a r ∷ []
upto_here a r lt live = filter_more is_live a r no_entry lt
    ∙ ap (λ b. live_entries (take r a) ++ cond b (entry_at a r ∷ []) []) live

live_at : (a : Entries) (r : ℕ) → r < length a → (entry_at a r).live ≡ true → IsAt a r
live_at a r lt live =
    let front : Entries = live_entries (take (r + 1) a) in
    let back : Entries = live_entries (drop (r + 1) a) in
    let whole : live_entries a ≡ front ++ back =
    ap live_entries (sym (take-append-drop (r + 1) a)) ∙ filter-append is_live (take (r + 1) a) (drop (r + 1) a) in
    let here = upto_here a r lt live in
    let size : length front ≡ live_before a r + 1 = ap length here ∙ length_push (live_entries (take r a)) (entry_at a r) in
    record {
      within = omega (arith, ap length whole, length-append front back);
      same = ap (λ (es : Entries). entry_at es (live_before a r)) whole
          ∙ get_or_append_left front back no_entry (live_before a r) (omega arith)
          ∙ ap (λ (es : Entries). entry_at es (live_before a r)) here
          ∙ get_or_push (live_entries (take r a)) (entry_at a r) no_entry (live_before a r) refl;
    }

-- a clause that was moved was live, and stands where it was moved to
record IsMovedTo (a : Entries) (r s : ℕ) : Type 0 where
  here : r < length a
  live : (entry_at a r).live ≡ true
  place : live_before a r ≡ s

moved_from : (a : Entries) (r s : ℕ) → moved_to a r ≡ Some s → IsMovedTo a r s
moved_from a r s e =
    let both = cond_some (entry_at a r).live (count_by is_live (take r a)) s e in record {
      here = ⊎_elim
          (λ (lt : r < length a). lt)
          (λ (past : length a ≤ r).
          absurd (false≢true (sym (ap (λ (x : Entry). x.live) (get_or_past a r no_entry past)) ∙ both.0)))
          (cases_lt r (length a));
      live = both.0;
      place = length-filter is_live (take r a) ∙ both.1;
    }

-- no more are live than there are
few_live : (a : Entries) (n : ℕ) → live_before a n ≤ n
few_live a n =
    omega (arith, length-filter_both is_live (λ e. not e.live) (λ e. refl) (take n a), length-take n a)

pub goes_down : (a b : Entries) (moves : List (Option ℕ)) → IsCompacted a b moves → GoDown moves
goes_down a b moves h = record {
  down = λ r s to. let m = moved_from h.cleared r s (sym (h.went r) ∙ to) in omega (arith, few_live h.cleared r, m.place);
}

-- a live clause of the result comes from a place
record IsFrom (a : Entries) (s : ℕ) : Type 0 where
  place : ℕ
  within : place < length a
  live : (entry_at a place).live ≡ true
  before : live_before a place ≡ s

bool_cases : (b : Bool) (A : Type 0) → (b ≡ true → A) → (b ≡ false → A) → A
bool_cases true A yes' no' = yes' refl
bool_cases false A yes' no' = no' refl

comes_from : (a : Entries) (n s : ℕ) → n ≤ length a → s < live_before a n → IsFrom a s
comes_from a zero s le lt = absurd (omega (arith, few_live a 0))
comes_from a (suc n) s le lt =
    let next : suc n ≡ n + 1 = omega arith in
    let size : live_before a (suc n) ≡ length (live_entries (take (n + 1) a)) = ap (live_before a) next in
    bool_cases (entry_at a n).live (IsFrom a s)
    (λ live.
    let more = ap length (upto_here a n (omega arith) live) in
    ⊎_elim
    (λ (early : s < live_before a n). comes_from a n s (omega arith) early)
    (λ (late : live_before a n ≤ s).
    let here : IsFrom a s = record {
      place = n;
      within = omega arith;
      live = live;
      before = omega (arith, size, more, length_push (live_entries (take n a)) (entry_at a n));
    } in here)
    (cases_lt s (live_before a n)))
    (λ dead.
    let same = ap length (filter_more is_live a n no_entry (omega arith)
    ∙ ap (λ b. live_entries (take n a) ++ cond b (entry_at a n ∷ []) []) dead ∙ append-nil (live_entries (take n a))) in
    comes_from a n s (omega arith) (omega (arith, size, same)))

-- a clause that stays is the same at its new place
pub record IsSame (a b : Entries) (r s : ℕ) : Type 0 where
  pub was : r < length a
  pub here : s < length b
  pub live : (entry_at a r).live ≡ true
  pub same : entry_at b s ≡ entry_at a r

pub stays_same : (a b : Entries) (moves : List (Option ℕ)) (r s : ℕ) → IsCompacted a b moves → move_of moves r ≡ Some s → IsSame a b r s
stays_same a b moves r s h to =
    let e = h.cleared in
    let m = moved_from e r s (sym (h.went r) ∙ to) in
    let at = live_at e r m.here m.live in
    let old = h.is_cleared.same r m.live in record {
      was = omega (arith, m.here, h.is_cleared.count);
      here = omega (arith, at.within, m.place, ap length h.kept);
      live = ap (λ (x : Entry). x.live) (sym old) ∙ m.live;
      same = ap (λ (es : Entries). entry_at es s) h.kept ∙ ap (λ (n : ℕ). entry_at (live_entries e) n) (sym m.place) ∙ at.same ∙ old;
    }

-- each clause of the result is one that stayed
pub record HasSource (moves : List (Option ℕ)) (s : ℕ) : Type 0 where
  pub place : ℕ
  pub to : move_of moves place ≡ Some s

pub has_source : (a b : Entries) (moves : List (Option ℕ)) (s : ℕ) → IsCompacted a b moves → s < length b → HasSource moves s
has_source a b moves s h lt =
    let e = h.cleared in
    let all = ap live_entries (take_all (length e) e (omega arith)) in
    let f = comes_from e (length e) s (omega arith) (omega (arith, lt, ap length h.kept, ap length all)) in record {
      place = f.place;
      to = h.went f.place ∙ ap (λ (n : ℕ). cond (entry_at e f.place).live (Some n) None) (sym (length-filter is_live (take f.place e)))
          ∙ ap (λ b. cond b (Some (live_before e f.place)) None) f.live ∙ ap (λ (n : ℕ). Some n) f.before;
    }

long_before : (a b : Entries) (r s : ℕ) → IsSame a b r s → IsLong b s → IsLong a r
long_before a b r s h long = record {
  live = record { present = h.was; live = h.live };
  long = subst (λ (e : Entry). 2 ≤ length e.lits) h.same long.long;
}

long_behind : (a b : Entries) (r s : ℕ) → IsSame a b r s → IsLong a r → IsLong b s
long_behind a b r s h long = record {
  live = record { present = h.here; live = ap (λ (e : Entry). e.live) h.same ∙ h.live };
  long = subst (λ (e : Entry). 2 ≤ length e.lits) (sym h.same) long.long;
}

-- ---- the watches

Contains-more : (o : Option Watcher) (ys : List Watcher) (y : Watcher) → Contains ys y → Contains (cons_option o ys) y
Contains-more None ys y here = here
Contains-more (Some z) ys y here = Contains-tail z ys y here

Contains-either : (o : Option Watcher) (ys : List Watcher) (y : Watcher) → Contains (cons_option o ys) y → (o ≡ Some y) ⊎ Contains ys y
Contains-either None ys y here = inr here
Contains-either (Some z) ys y here =
    ⊎_elim
    (λ (first : z ≡ y). inl (ap (λ (x : Watcher). Some x) first))
    (λ (later : Contains ys y). inr later)
    (Contains-cons_cases z ys y here)

stays_listed : (moves : List (Option ℕ)) (xs : List Watcher) (x y : Watcher) → Contains xs x → moved_watch moves x ≡ Some y
    → Contains (moved_list moves xs) y
stays_listed moves [] x y here is = absurd (Contains-nil x here)
stays_listed moves (z ∷ xs) x y here is =
    ⊎_elim
    (λ (first : z ≡ x).
    subst (λ o. Contains (cons_option o (moved_list moves xs)) y) (sym (ap (moved_watch moves) first ∙ is))
    (Contains-head y (moved_list moves xs)))
    (λ (later : Contains xs x).
    Contains-more (moved_watch moves z) (moved_list moves xs) y (stays_listed moves xs x y later is))
    (Contains-cons_cases z xs x here)

-- the watch that a moved one was
record WasListed (moves : List (Option ℕ)) (xs : List Watcher) (y : Watcher) : Type 0 where
  watch : Watcher
  member : Contains xs watch
  is : moved_watch moves watch ≡ Some y

was_listed : (moves : List (Option ℕ)) (xs : List Watcher) (y : Watcher) → Contains (moved_list moves xs) y → WasListed moves xs y
was_listed moves [] y here = absurd (Contains-nil y here)
was_listed moves (z ∷ xs) y here =
    ⊎_elim
    (λ (first : moved_watch moves z ≡ Some y).
    let w : WasListed moves (z ∷ xs) y = record { watch = z; member = Contains-head z xs; is = first } in w)
    (λ (later : Contains (moved_list moves xs) y).
    let old = was_listed moves xs y later in
    let w : WasListed moves (z ∷ xs) y = record { watch = old.watch; member = Contains-tail z xs old.watch old.member; is = old.is } in w)
    (Contains-either (moved_watch moves z) (moved_list moves xs) y here)

-- what a moved watch has of the old one
record IsPlaced (x : Watcher) (o : Option ℕ) (y : Watcher) : Type 0 where
  to : o ≡ Some y.clause
  blocker : y.blocker ≡ x.blocker
  binary : y.binary ≡ x.binary

placed_of : (x : Watcher) (o : Option ℕ) (y : Watcher) → at_place x o ≡ Some y → IsPlaced x o y
placed_of x None y e = absurd (none-some y e)
placed_of x (Some place) y e =
    let is : (let z : Watcher = record x { clause = place } in z) ≡ y = same_Some (record x { clause = place }) y e in record {
      to = ap (λ (z : Watcher). Some z.clause) is;
      blocker = sym (ap (λ (z : Watcher). z.blocker) is);
      binary = sym (ap (λ (z : Watcher). z.binary) is);
    }

list_moved : (moves : List (Option ℕ)) (w : WatchLists) (l : Literal) → list_of (moved_lists moves w) l ≡ moved_list moves (list_of w l)
list_moved moves w l =
    ⊎_elim
    (λ (inside : code_of l < length w.lists). get_or-map (moved_list moves) w.lists (code_of l) [] [] inside)
    (λ (past : length w.lists ≤ code_of l).
    get_or_past (map (moved_list moves) w.lists) (code_of l) [] (omega (arith, length-map w.lists (moved_list moves)))
    ∙ sym (ap (moved_list moves) (get_or_past w.lists (code_of l) [] past)))
    (cases_lt (code_of l) (length w.lists))

sound_moved : (a b : Entries) (moves : List (Option ℕ)) (w : WatchLists) (l : Literal) (k : ℕ) → IsCompacted a b moves → IsAttached a w
    → k < length (moved_list moves (list_of w l)) → IsSound b l (get_or (moved_list moves (list_of w l)) k no_watch)
sound_moved a b moves w l k c h lt =
    let ys = moved_list moves (list_of w l) in
    let y = get_or ys k no_watch in
    let old = was_listed moves (list_of w l) y (Contains-get_or ys k no_watch lt) in
    let x = old.watch in
    let at = old.member.0 in
    let is : watch_at w l at ≡ x = get_or_default (list_of w l) at no_watch x old.member.1 ∙ old.member.2 in
    let s : IsSound a l x = subst (IsSound a l) is (h.sound l at old.member.1) in
    let p = placed_of x (move_of moves x.clause) y old.is in
    let e = stays_same a b moves x.clause y.clause c p.to in record {
      long = long_behind a b x.clause y.clause e s.long;
      blocker = subst (λ (n : Entry). Contains n.lits y.blocker) (sym e.same)
          (subst (λ (z : Literal). Contains (entry_at a x.clause).lits z) (sym p.blocker) s.blocker);
      pair = λ two z member other.
          s.pair (sym p.binary ∙ two) z (subst (λ (n : Entry). Contains n.lits z) e.same member) (λ same. other (same ∙ sym p.blocker));
    }

complete_moved : (a b : Entries) (moves : List (Option ℕ)) (w : WatchLists) (l : Literal) (r s : ℕ) → IsCompacted a b moves
    → move_of moves r ≡ Some s → HasWatchFrom (list_of w l) r 0 → HasWatchFrom (moved_list moves (list_of w l)) s 0
complete_moved a b moves w l r s c to h =
    let xs = list_of w l in
    let x = get_or xs h.place no_watch in
    let y : Watcher = record x { clause = s } in
    let is : moved_watch moves x ≡ Some y = ap (λ n. at_place x (move_of moves n)) h.clause ∙ ap (at_place x) to in
    let m : Contains (moved_list moves xs) y = stays_listed moves xs x y (Contains-get_or xs h.place no_watch h.within) is in record {
      place = m.0;
      from = omega arith;
      within = m.1;
      clause = ap (λ (z : Watcher). z.clause) (get_or_default (moved_list moves xs) m.0 no_watch y m.1 ∙ m.2);
    }

attached_compacted : (a b : Entries) (moves : List (Option ℕ)) (w : WatchLists) → IsAttached a w → IsCompacted a b moves
    → IsAttached b (moved_lists moves w)
attached_compacted a b moves w h c = record {
  size = length-map w.lists (moved_list moves) ∙ h.size;
  clean = λ s long.
      let f = has_source a b moves s c long.live.present in
      let e = stays_same a b moves f.place s c f.to in
      subst (λ (x : Entry). IsClean w.vars x.lits) (sym e.same) (h.clean f.place (long_before a b f.place s e long));
  sound = λ l k lt.
      subst (λ (xs : List Watcher). IsSound b l (get_or xs k no_watch)) (sym (list_moved moves w l))
      (sound_moved a b moves w l k c h (subst (λ (xs : List Watcher). k < length xs) (list_moved moves w l) lt));
  complete = λ s i long two.
      let f = has_source a b moves s c long.live.present in
      let e = stays_same a b moves f.place s c f.to in
      let l = literal_of b s i in
      let same : literal_of a f.place i ≡ l = ap (λ (x : Entry). get_or x.lits i no_literal) (sym e.same) in
      subst (λ (xs : List Watcher). HasWatchFrom xs s 0) (sym (list_moved moves w l))
      (complete_moved a b moves w l f.place s c f.to
      (subst (λ (z : Literal). HasWatchFrom (list_of w z) f.place 0) same (h.complete f.place i (long_before a b f.place s e long) two)));
}

pub ready_compacted : (a b : Entries) (moves : List (Option ℕ)) (w v : WatchLists) (t : TrailState) → IsReady a w t → IsCompacted a b moves
    → v ≡ moved_lists moves w → IsReady b v t
ready_compacted a b moves w v t h c is =
    subst (λ (u : WatchLists). IsReady b u t) (sym is) (record {
      vars = h.vars;
      attached = attached_compacted a b moves w h.attached c;
      watched = record {
        rule = λ s i p long two before at.
            let f = has_source a b moves s c long.live.present in
            let e = stays_same a b moves f.place s c f.to in
            let same : literal_of b s i ≡ literal_of a f.place i = ap (λ (x : Entry). get_or x.lits i no_literal) e.same in
            let was = h.watched.rule f.place i p (long_before a b f.place s e long) two before (at ∙ ap negated same) in
            let new : HasTrueBy b t.entries s (assigned_at t.entries p).level = record {
              lit = was.lit;
              member = subst (λ (x : Entry). Contains x.lits was.lit) (sym e.same) was.member;
              made = was.made;
            } in new;
      };
      gone = h.gone;
      present = h.present;
    })
