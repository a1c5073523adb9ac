-- Changes of the lists of watches.
use Rattle.std.proofs.Common.{◌≡◌, ◌≢◌, ℕ, zero, suc, ◌+◌, ◌-◌, ◌*◌, ◌<◌, ◌≤◌, ◌⊎◌, ◌==◌, true, Contains, List, [], ◌∷◌, ◌++◌, length, take}
use Rattle.std.proofs.Common.{get_or, set, replicate, swap_remove, refl, sym, ap, ◌∙◌, subst, ⊎_elim, arith}
use Rattle.std.proofs.lemmas.List.{length-set, get_or-set_same, get_or-set_other, set-get_or, get_or-take, length-take-le, take-append-le}
use Rattle.std.proofs.lemmas.List.{take_all, length_push, get_or_push, get_or_append_left, length-replicate, get_or-replicate, get_or_past}
use Rattle.std.proofs.lemmas.Bool.{cases_eq, cases_lt, eqb-true}
use Rattle.cnf_core.specs.Literals.{Literal, code_of, IsWithin}
use Rattle.clause_arena.specs.Entries.{Entry, Entries, entry_at, len_of, literal_of, with_swap}
use Rattle.trail_core.proofs.Literals.{same_code}
use Rattle.trail_core.proofs.Lookups.{code_within}
use Rattle.watch_lists.specs.Watchers.{Watcher}
use Rattle.watch_lists.specs.Clauses.{IsLong, IsClean, IsReordered}
use Rattle.watch_lists.specs.Lists.{WatchLists, IsSized, no_watch, empty_lists, watcher_of, with_clause, list_of, watch_at, with_list}
use Rattle.watch_lists.specs.Lists.{with_watch, IsSound, HasWatchFrom, IsAttached}
use Rattle.watch_lists.specs.Steps.Lists.{with_watch_at, without_watch}
use Rattle.watch_lists.proofs.Orders.{place_of, reordered_swap, reordered_sym, long_after, member_after, literal_member, clean_swap}
use Rattle.watch_lists.proofs.Orders.{at_unswapped}

-- ---- one list

set_twice : {X : Type 0} (xs : List X) (i : ℕ) (x y : X) → set (set xs i x) i y ≡ set xs i y
set_twice [] i x y = refl
set_twice (z ∷ zs) zero x y = refl
set_twice (z ∷ zs) (suc i) x y = ap (λ l. z ∷ l) (set_twice zs i x y)

pub length-removed : (xs : List Watcher) (i : ℕ) → i < length xs → length (swap_remove xs i no_watch) + 1 ≡ length xs
length-removed xs i lt =
    let ys = set xs i (get_or xs (length xs - 1) no_watch) in
    let size : length ys ≡ length xs = length-set xs i (get_or xs (length xs - 1) no_watch) in
    omega (arith, length-take-le (length xs - 1) ys (omega arith))

removed_here : (xs : List Watcher) (i : ℕ) → i + 1 < length xs
    → get_or (swap_remove xs i no_watch) i no_watch ≡ get_or xs (length xs - 1) no_watch
removed_here xs i lt =
    let last = get_or xs (length xs - 1) no_watch in
    get_or-take (length xs - 1) (set xs i last) i no_watch (omega arith)
    ∙ get_or-set_same xs i last no_watch (omega arith)

removed_there : (xs : List Watcher) (i k : ℕ) → k ≢ i → k + 1 < length xs
    → get_or (swap_remove xs i no_watch) k no_watch ≡ get_or xs k no_watch
removed_there xs i k other lt =
    let last = get_or xs (length xs - 1) no_watch in
    get_or-take (length xs - 1) (set xs i last) k no_watch (omega arith)
    ∙ get_or-set_other xs i k last no_watch other

-- a watch of the clause stays in the list
pub has_set : (xs : List Watcher) (k r start : ℕ) (x : Watcher) → k < length xs → x.clause ≡ (get_or xs k no_watch).clause
    → HasWatchFrom xs r start → HasWatchFrom (set xs k x) r start
has_set xs k r start x lt same h = record {
  place = h.place;
  from = h.from;
  within = omega (arith, length-set xs k x, h.within);
  clause = ⊎_elim
      (λ (at : h.place ≡ k).
      ap (λ (n : ℕ). (get_or (set xs k x) n no_watch).clause) at ∙ ap (λ (y : Watcher). y.clause) (get_or-set_same xs k x no_watch lt)
      ∙ same ∙ ap (λ (n : ℕ). (get_or xs n no_watch).clause) (sym at) ∙ h.clause)
      (λ (other : h.place ≢ k). ap (λ (y : Watcher). y.clause) (get_or-set_other xs k h.place x no_watch other) ∙ h.clause)
      (cases_eq h.place k);
}

pub has_push : (xs : List Watcher) (r start : ℕ) (x : Watcher) → HasWatchFrom xs r start → HasWatchFrom (xs ++ x ∷ []) r start
has_push xs r start x h = record {
  place = h.place;
  from = h.from;
  within = omega (arith, length_push xs x, h.within);
  clause = ap (λ (y : Watcher). y.clause) (get_or_append_left xs (x ∷ []) no_watch h.place h.within) ∙ h.clause;
}

pub has_pushed : (xs : List Watcher) (x : Watcher) → HasWatchFrom (xs ++ x ∷ []) x.clause 0
has_pushed xs x = record {
  place = length xs;
  from = omega arith;
  within = omega (arith, length_push xs x);
  clause = ap (λ (y : Watcher). y.clause) (get_or_push xs x no_watch (length xs) refl);
}

pub has_removed : (xs : List Watcher) (k r start : ℕ) → k < length xs → (get_or xs k no_watch).clause ≢ r → start ≤ k
    → HasWatchFrom xs r start → HasWatchFrom (swap_remove xs k no_watch) r start
has_removed xs k r start lt apart le h =
    let size = length-removed xs k lt in
    let other : h.place ≢ k = λ e. apart (ap (λ (n : ℕ). (get_or xs n no_watch).clause) (sym e) ∙ h.clause) in
    ⊎_elim
    (λ (inner : h.place + 1 < length xs).
    let here : HasWatchFrom (swap_remove xs k no_watch) r start = record {
      place = h.place;
      from = h.from;
      within = omega (arith, size, inner);
      clause = ap (λ (y : Watcher). y.clause) (removed_there xs k h.place other inner) ∙ h.clause;
    } in here)
    (λ (last : length xs ≤ h.place + 1).
    let end : h.place ≡ length xs - 1 = omega (arith, h.within) in
    let before : k + 1 < length xs = ⊎_elim
    (λ (lt : k < h.place). omega (arith, h.within)) (λ (past : h.place ≤ k). absurd (other (omega (arith, h.within))))
    (cases_lt k h.place) in
    let there : HasWatchFrom (swap_remove xs k no_watch) r start = record {
      place = k;
      from = le;
      within = omega (arith, size);
      clause = ap (λ (y : Watcher). y.clause) (removed_here xs k before)
          ∙ ap (λ (n : ℕ). (get_or xs n no_watch).clause) (sym end) ∙ h.clause;
    } in there)
    (cases_lt (h.place + 1) (length xs))

-- the watches of a literal's list are sound
abbrev AreSound : Entries → Literal → List Watcher → Type 0
AreSound a l xs = (k : ℕ) → k < length xs → IsSound a l (get_or xs k no_watch)

sound_set : (a : Entries) (l : Literal) (xs : List Watcher) (k : ℕ) (x : Watcher) → k < length xs → IsSound a l x → AreSound a l xs
    → AreSound a l (set xs k x)
sound_set a l xs k x lt new old n within =
    ⊎_elim
    (λ (at : n ≡ k). subst (IsSound a l) (sym (ap (λ (m : ℕ). get_or (set xs k x) m no_watch) at ∙ get_or-set_same xs k x no_watch lt)) new)
    (λ (other : n ≢ k). subst (IsSound a l) (sym (get_or-set_other xs k n x no_watch other)) (old n (omega (arith, length-set xs k x))))
    (cases_eq n k)

sound_push : (a : Entries) (l : Literal) (xs : List Watcher) (x : Watcher) → IsSound a l x → AreSound a l xs → AreSound a l (xs ++ x ∷ [])
sound_push a l xs x new old n within =
    ⊎_elim
    (λ (inner : n < length xs). subst (IsSound a l) (sym (get_or_append_left xs (x ∷ []) no_watch n inner)) (old n inner))
    (λ (last : length xs ≤ n). subst (IsSound a l) (sym (get_or_push xs x no_watch n (omega (arith, length_push xs x)))) new)
    (cases_lt n (length xs))

sound_removed : (a : Entries) (l : Literal) (xs : List Watcher) (k : ℕ) → k < length xs → AreSound a l xs
    → AreSound a l (swap_remove xs k no_watch)
sound_removed a l xs k lt old n within =
    let size = length-removed xs k lt in
    ⊎_elim
    (λ (at : n ≡ k).
    subst (IsSound a l)
    (sym (ap (λ (m : ℕ). get_or (swap_remove xs k no_watch) m no_watch) at ∙ removed_here xs k (omega (arith, size))))
    (old (length xs - 1) (omega arith)))
    (λ (other : n ≢ k). subst (IsSound a l) (sym (removed_there xs k n other (omega (arith, size)))) (old n (omega (arith, size))))
    (cases_eq n k)

-- ---- all lists

pub list_set : (w : WatchLists) (l : Literal) (xs : List Watcher) → IsSized w → IsWithin w.vars l → list_of (with_list w l xs) l ≡ xs
list_set w l xs size within = get_or-set_same w.lists (code_of l) xs [] (omega (arith, size, code_within w.vars l within))

pub list_unset : (w : WatchLists) (l k : Literal) (xs : List Watcher) → k ≢ l → list_of (with_list w l xs) k ≡ list_of w k
list_unset w l k xs other = get_or-set_other w.lists (code_of l) (code_of k) xs [] (λ e. other (same_code k l e))

pub sized : (w : WatchLists) (l : Literal) (xs : List Watcher) → IsSized w → IsSized (with_list w l xs)
sized w l xs size = length-set w.lists (code_of l) xs ∙ size

-- literals are equal or not
pub literal_eq : (k l : Literal) (A : Type 0) → (k ≡ l → A) → (k ≢ l → A) → A
literal_eq k l A same other =
    ⊎_elim
    (λ (e : code_of k ≡ code_of l). same (same_code k l e))
    (λ (ne : code_of k ≢ code_of l). other (λ e. ne (ap code_of e)))
    (cases_eq (code_of k) (code_of l))

none_listed : (vars code k : ℕ) → k < length (get_or (replicate (2 * vars + 2) (let none : List Watcher = [] in none)) code []) → ⊥
none_listed vars code k lt =
    let e : get_or (replicate (2 * vars + 2) (let none : List Watcher = [] in none)) code [] ≡ [] = ⊎_elim
    (λ (inside : code < 2 * vars + 2). get_or-replicate (2 * vars + 2) code [] [] inside)
    (λ (past : 2 * vars + 2 ≤ code).
    get_or_past (replicate (2 * vars + 2) []) code [] (omega (
      arith,
      length-replicate (2 * vars + 2) (let none : List Watcher = [] in none),
    )))
    (cases_lt code (2 * vars + 2)) in
    omega (arith, ap (λ (xs : List Watcher). length xs) e)

-- the clauses of a kind are in the lists of their first two literals, and nothing but live ones of two or more is listed
pub record IsFilled (Q : ℕ → Type 0) (a : Entries) (w : WatchLists) : Type 0 where
  pub size : IsSized w
  pub sound : (l : Literal) (k : ℕ) → k < length (list_of w l) → IsSound a l (watch_at w l k)
  pub complete : (r i : ℕ) → Q r → IsLong a r → i < 2 → HasWatchFrom (list_of w (literal_of a r i)) r 0

-- every clause
abbrev pub Each : ℕ → Type 0
Each r = Unit {0}

pub filled_of : (a : Entries) (w : WatchLists) → IsAttached a w → IsFilled Each a w
filled_of a w h = record { size = h.size; sound = h.sound; complete = λ r i any long lt. h.complete r i long lt }

pub attached_of : (Q : ℕ → Type 0) (a : Entries) (w : WatchLists) → IsFilled Q a w → ((r : ℕ) → IsLong a r → Q r)
    → ((r : ℕ) → IsLong a r → IsClean w.vars (entry_at a r).lits) → IsAttached a w
attached_of Q a w h all clean = record {
  size = h.size;
  clean = clean;
  sound = h.sound;
  complete = λ r i long lt. h.complete r i (all r long) long lt;
}

-- another list for one literal
filled_with : (Q : ℕ → Type 0) (a : Entries) (w : WatchLists) (l : Literal) (xs : List Watcher) → IsFilled Q a w → IsWithin w.vars l
    → AreSound a l xs
    → ((r i : ℕ) → IsLong a r → i < 2 → literal_of a r i ≡ l → HasWatchFrom (list_of w l) r 0 → HasWatchFrom xs r 0)
    → IsFilled Q a (with_list w l xs)
filled_with Q a w l xs h within sound complete =
    let v = with_list w l xs in record {
      size = sized w l xs h.size;
      sound = λ m k. literal_eq m l (k < length (list_of v m) → IsSound a m (watch_at v m k))
          (λ same.
          let e : list_of v m ≡ xs = ap (λ (n : Literal). list_of v n) same ∙ list_set w l xs h.size within in
          subst (λ (ys : List Watcher). k < length ys → IsSound a m (get_or ys k no_watch)) (sym e)
          (subst (λ (n : Literal). k < length xs → IsSound a n (get_or xs k no_watch)) (sym same) (sound k)))
          (λ other.
          subst (λ (ys : List Watcher). k < length ys → IsSound a m (get_or ys k no_watch))
          (sym (list_unset w l m xs other)) (h.sound m k));
      complete = λ r i kind long lt.
          let m = literal_of a r i in
          let was = h.complete r i kind long lt in
          literal_eq m l (HasWatchFrom (list_of (with_list w l xs) m) r 0)
          (λ same.
          subst (λ (ys : List Watcher). HasWatchFrom ys r 0)
          (sym (ap (λ (n : Literal). list_of (with_list w l xs) n) same ∙ list_set w l xs h.size within))
          (complete r i long lt same (subst (λ (n : Literal). HasWatchFrom (list_of w n) r 0) same was)))
          (λ other. subst (λ (ys : List Watcher). HasWatchFrom ys r 0) (sym (list_unset w l m xs other)) was);
    }

attached_with : (a : Entries) (w : WatchLists) (l : Literal) (xs : List Watcher) → IsAttached a w → IsWithin w.vars l
    → AreSound a l xs
    → ((r i : ℕ) → IsLong a r → i < 2 → literal_of a r i ≡ l → HasWatchFrom (list_of w l) r 0 → HasWatchFrom xs r 0)
    → IsAttached a (with_list w l xs)
attached_with a w l xs h within sound complete =
    attached_of Each a (with_list w l xs) (filled_with Each a w l xs (filled_of a w h) within sound complete) (λ r long. tt) h.clean

pub attached_set : (a : Entries) (w : WatchLists) (l : Literal) (k : ℕ) (x : Watcher) → IsAttached a w → IsWithin w.vars l
    → k < length (list_of w l) → x.clause ≡ (watch_at w l k).clause → IsSound a l x → IsAttached a (with_watch_at w l k x)
attached_set a w l k x h within lt same new =
    attached_with a w l (set (list_of w l) k x) h within (sound_set a l (list_of w l) k x lt new (h.sound l))
    (λ r i long two is was. has_set (list_of w l) k r 0 x lt same was)

pub filled_add : (Q : ℕ → Type 0) (a : Entries) (w : WatchLists) (l : Literal) (x : Watcher) → IsFilled Q a w → IsWithin w.vars l
    → IsSound a l x → IsFilled Q a (with_watch w l x)
filled_add Q a w l x h within new =
    filled_with Q a w l (list_of w l ++ x ∷ []) h within (sound_push a l (list_of w l) x new (h.sound l))
    (λ r i long two is was. has_push (list_of w l) r 0 x was)

pub attached_add : (a : Entries) (w : WatchLists) (l : Literal) (x : Watcher) → IsAttached a w → IsWithin w.vars l
    → IsSound a l x → IsAttached a (with_watch w l x)
attached_add a w l x h within new =
    attached_of Each a (with_watch w l x) (filled_add Each a w l x (filled_of a w h) within new) (λ r long. tt) h.clean

-- the watch that is taken out is of a clause that doesn't watch the literal
pub attached_remove : (a : Entries) (w : WatchLists) (l : Literal) (k : ℕ) → IsAttached a w → IsWithin w.vars l
    → k < length (list_of w l) → ((i : ℕ) → i < 2 → literal_of a (watch_at w l k).clause i ≢ l)
    → IsAttached a (without_watch w l k)
attached_remove a w l k h within lt apart =
    attached_with a w l (swap_remove (list_of w l) k no_watch) h within (sound_removed a l (list_of w l) k lt (h.sound l))
    (λ r i long two is was.
    has_removed (list_of w l) k r 0 lt (λ e. apart i two (ap (λ (n : ℕ). literal_of a n i) e ∙ is)) (omega arith) was)

-- a clause is attached
pub two_cases : (m : ℕ) (A : Type 0) → m < 2 → (m ≡ 0 → A) → (m ≡ 1 → A) → A
two_cases m A lt zeroth first = ⊎_elim zeroth (λ (ne : m ≢ 0). first (omega arith)) (cases_eq m 0)

listed_pushed : (w : WatchLists) (l : Literal) (x : Watcher) → IsSized w → IsWithin w.vars l
    → HasWatchFrom (list_of (with_watch w l x) l) x.clause 0
listed_pushed w l x size within =
    subst (λ (ys : List Watcher). HasWatchFrom ys x.clause 0) (sym (list_set w l (list_of w l ++ x ∷ []) size within)) (has_pushed
    (list_of w l) x)

listed_still : (w : WatchLists) (l k : Literal) (x : Watcher) (r : ℕ) → IsSized w → IsWithin w.vars l → HasWatchFrom (list_of w k) r 0
    → HasWatchFrom (list_of (with_watch w l x) k) r 0
listed_still w l k x r size within h =
    literal_eq k l (HasWatchFrom (list_of (with_watch w l x) k) r 0)
    (λ same.
    subst (λ (ys : List Watcher). HasWatchFrom ys r 0)
    (sym (ap (λ (n : Literal). list_of (with_watch w l x) n) same ∙ list_set w l (list_of w l ++ x ∷ []) size within))
    (has_push (list_of w l) r 0 x (subst (λ (n : Literal). HasWatchFrom (list_of w n) r 0) same h)))
    (λ other. subst (λ (ys : List Watcher). HasWatchFrom ys r 0) (sym (list_unset w l k (list_of w l ++ x ∷ []) other)) h)

-- a literal of a clause of two is the first where it isn't the second, and the second where it isn't the first
of_two : (a : Entries) (r : ℕ) (l : Literal) (A : Type 0) → len_of a r == 2 ≡ true → Contains (entry_at a r).lits l
    → (l ≡ literal_of a r 0 → A) → (l ≡ literal_of a r 1 → A) → A
of_two a r l A two member zeroth first =
    let p = place_of a r l member in
    two_cases p.place A (omega (arith, p.within, eqb-true (len_of a r) 2 two))
    (λ at. zeroth (sym p.lit ∙ ap (λ (n : ℕ). literal_of a r n) at))
    (λ at. first (sym p.lit ∙ ap (λ (n : ℕ). literal_of a r n) at))

of_second : (a : Entries) (r : ℕ) (l : Literal) → len_of a r == 2 ≡ true → Contains (entry_at a r).lits l → l ≢ literal_of a r 1
    → l ≡ literal_of a r 0
of_second a r l two member other = of_two a r l (l ≡ literal_of a r 0) two member (λ e. e) (λ e. absurd (other e))

of_first : (a : Entries) (r : ℕ) (l : Literal) → len_of a r == 2 ≡ true → Contains (entry_at a r).lits l → l ≢ literal_of a r 0
    → l ≡ literal_of a r 1
of_first a r l two member other = of_two a r l (l ≡ literal_of a r 1) two member (λ e. absurd (other e)) (λ e. e)

pub filled_clause : (Q P : ℕ → Type 0) (a : Entries) (w : WatchLists) (r : ℕ) → IsFilled Q a w → IsLong a r
    → IsClean w.vars (entry_at a r).lits
    → ((s : ℕ) → P s → Q s ⊎ (s ≡ r)) → IsFilled P a (with_clause w a r)
filled_clause Q P a w r h long clean kinds =
    let first = literal_of a r 0 in
    let second = literal_of a r 1 in
    let x : Watcher = watcher_of a r second in
    let y : Watcher = watcher_of a r first in
    let zeroth : 0 < len_of a r = omega (arith, long.long) in
    let one : 1 < len_of a r = omega (arith, long.long) in
    let v = with_watch w first x in
    let in_first = clean.within 0 zeroth in
    let in_second = clean.within 1 one in
    let f = filled_add Q a w first x h in_first
    (record { long = long; blocker = literal_member a r 1 one; pair = λ two l member other. of_second a r l two member other }) in
    let g = filled_add Q a v second y f in_second
    (record { long = long; blocker = literal_member a r 0 zeroth; pair = λ two l member other. of_first a r l two member other }) in
    let u = with_watch v second y in
    let here : (m : ℕ) → m < 2 → HasWatchFrom (list_of u (literal_of a r m)) r 0 =
    λ m lt. two_cases m (HasWatchFrom (list_of u (literal_of a r m)) r 0) lt
    (λ at. subst (λ (n : ℕ). HasWatchFrom (list_of u (literal_of a r n)) r 0) (sym at)
    (listed_still v second first y r f.size in_second (listed_pushed w first x h.size in_first)))
    (λ at. subst (λ (n : ℕ). HasWatchFrom (list_of u (literal_of a r n)) r 0) (sym at)
    (listed_pushed v second y f.size in_second)) in record {
      size = g.size;
      sound = g.sound;
      complete = λ s m kind lng lt. ⊎_elim
          (λ (old : Q s). g.complete s m old lng lt)
          (λ (at : s ≡ r). subst (λ (z : ℕ). HasWatchFrom (list_of u (literal_of a z m)) z 0) (sym at) (here m lt))
          (kinds s kind);
    }

-- lists without watches
pub filled_empty : (Q : ℕ → Type 0) (a : Entries) (vars : ℕ) → ((r : ℕ) → Q r → IsLong a r → ⊥) → IsFilled Q a (empty_lists vars)
filled_empty Q a vars none = record {
  size = length-replicate (2 * vars + 2) [];
  sound = λ l k lt. absurd (none_listed vars (code_of l) k lt);
  complete = λ r i kind long lt. absurd (none r kind long);
}

-- two literals of a clause exchanged, where the lists of its first two have it then
pub sound_after : (a b : Entries) (l : Literal) (x : Watcher) → IsReordered a b → IsSound a l x → IsSound b l x
sound_after a b l x o h =
    let long = long_after a b x.clause o h.long in record {
      long = long;
      blocker = member_after a b x.clause x.blocker o h.long.live h.blocker;
      pair = λ two k member. h.pair two k (member_after b a x.clause k (reordered_sym a b o) long.live member);
    }

pub attached_swap : (a : Entries) (w : WatchLists) (r i j : ℕ) → IsAttached a w → r < length a → i < len_of a r → j < len_of a r
    → ((m : ℕ) → m < 2 → HasWatchFrom (list_of w (literal_of (with_swap a r i j) r m)) r 0)
    → IsAttached (with_swap a r i j) w
attached_swap a w r i j h here first second listed =
    let b = with_swap a r i j in
    let o : IsReordered a b = reordered_swap a r i j here first second in
    let back = reordered_sym a b o in record {
      size = h.size;
      clean = λ s long. clean_swap w.vars a r i j s here first second (h.clean s (long_after b a s back long));
      sound = λ l k lt. sound_after a b l (watch_at w l k) o (h.sound l k lt);
      complete = λ s m long lt. ⊎_elim
          (λ (at : s ≡ r). subst (λ (z : ℕ). HasWatchFrom (list_of w (literal_of b z m)) z 0) (sym at) (listed m lt))
          (λ (other : s ≢ r).
          subst (λ (e : Entry). HasWatchFrom (list_of w (get_or e.lits m Rattle.clause_arena.specs.Entries.no_literal)) s 0)
          (sym (at_unswapped a r i j s other)) (h.complete s m (long_after b a s back long) lt))
          (cases_eq s r);
    }

-- ---- a watch put in and taken out again

pub added_and_removed : (w : WatchLists) (l : Literal) (x : Watcher) → IsSized w → IsWithin w.vars l
    → without_watch (with_watch w l x) l (length (list_of w l)) ≡ w
added_and_removed w l x size within =
    let xs = list_of w l in
    let ys = xs ++ x ∷ [] in
    let n = length xs in
    let is : list_of (with_watch w l x) l ≡ ys = list_set w l ys size within in
    let end : length ys - 1 ≡ n = omega (arith, length_push xs x) in
    let same : set ys n (get_or ys (length ys - 1) no_watch) ≡ ys =
    ap (λ (k : ℕ). set ys n (get_or ys k no_watch)) end ∙ set-get_or ys n no_watch in
    let out : swap_remove ys n no_watch ≡ xs =
    ap (λ (k : ℕ). take k (set ys n (get_or ys (length ys - 1) no_watch))) end ∙ ap (take n) same
    ∙ take-append-le n xs (x ∷ []) (omega arith) ∙ take_all n xs (omega arith) in
    ap (λ (zs : List Watcher). with_list (with_watch w l x) l (swap_remove zs n no_watch)) is
    ∙ ap (λ (zs : List Watcher). with_list (with_watch w l x) l zs) out
    ∙ ap (λ (ls : List (List Watcher)). record w { lists = ls }) (set_twice w.lists (code_of l) ys xs ∙ set-get_or w.lists (code_of l) [])
