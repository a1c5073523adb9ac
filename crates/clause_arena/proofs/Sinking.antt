-- The live clauses are moved down over the removed ones.
use Rattle.std.proofs.Common.{◌≡◌, ◌≢◌, ℕ, zero, suc, ◌+◌, ◌-◌, ◌<◌, ◌≤◌, cond, true, false, Option, Some, None, List, [], ◌∷◌, ◌++◌, length, get_or, take, map, set, count_by}
use Rattle.std.proofs.Common.{refl, sym, ap, ◌∙◌, subst, ⊎_elim, arith, length-append, append_assoc, append-nil}
use Rattle.std.specs.List.{between, range_with_len}
use Rattle.std.proofs.lemmas.List.{length-set, get_or-set_same, get_or-set_other, get_or_append_left, get_or-append_right, get_or_push, get_or_past, get_or-take}
use Rattle.std.proofs.lemmas.List.{length_push, length-take-le, take_all, take_more, ext_get_or, get_or_read}
use Rattle.std.proofs.lemmas.List.Edits.{length-between, get_or-between}
use Rattle.std.proofs.lemmas.List.Elements.{filter_more}
use Rattle.std.proofs.lemmas.List.Sums.{length-filter}
use Rattle.std.proofs.lemmas.List.FromFn.{length-map-range_with_len, get_or-map-range_with_len}
use Rattle.std.proofs.lemmas.Bool.{cases_eq, cases_lt}
use Rattle.cnf_core.specs.Literals.{Literals}
use Rattle.clause_arena.specs.Entries.{Entry, Entries, no_entry, no_literal, entry_at, is_live, live_entries, moved_to, move_of}
use Rattle.clause_arena.specs.Steps.Layout.{no_mark, mark_at, laid_entry, laid_entries, IsLaidOut}
use Rattle.clause_arena.specs.Steps.Sinking.{moves_of, IsOneDown, IsFront, IsRest, IsSunk}
use Rattle.clause_arena.specs.declared.arena.Mark.{Mark}
use Rattle.clause_arena.proofs.Laid.{laid_at}
use Rattle.clause_arena.proofs.Changed.{same_entries}

length-laid : (l : Literals) (s : List ℕ) (m : List Mark) → length (laid_entries l s m) ≡ length m
length-laid l s m = length-map-range_with_len (laid_entry l s m) 0 (length m)

-- two parts with the same literals
same_part : (l l' : Literals) (i j i' j' : ℕ) → j ≤ length l → j' ≤ length l' → j - i ≡ j' - i'
    → ((k : ℕ) → k < j - i → get_or l (i + k) no_literal ≡ get_or l' (i' + k) no_literal) → between i j l ≡ between i' j' l'
same_part l l' i j i' j' fits fits' size each =
    let first : length (between i j l) ≡ j - i = length-between l i j fits in
    let second : length (between i' j' l') ≡ j' - i' = length-between l' i' j' fits' in
    ext_get_or no_literal (between i j l) (between i' j' l') (omega arith)
    (λ k lt.
    get_or-between l i j k no_literal (omega arith) ∙ each k (omega arith) ∙ sym (get_or-between l' i' j' k no_literal (omega arith)))

-- entries of the same mark and the same literals
same_laid : (l l' : Literals) (s s' : List ℕ) (m m' : List Mark) (k k' : ℕ) → mark_at m k ≡ mark_at m' k'
    → between (get_or s k 0) (get_or s (k + 1) 0) l ≡ between (get_or s' k' 0) (get_or s' (k' + 1) 0) l'
    → laid_entry l s m k ≡ laid_entry l' s' m' k'
same_laid l l' s s' m m' k k' mark lits =
    same_entries (laid_entry l s m k) (laid_entry l' s' m' k') (ap (λ x. x.id) mark) lits (ap (λ x. x.learnt) mark) (ap (λ x. x.live) mark)

-- ---- the moves

moves_length : (first : ℕ) (to : List (Option ℕ)) → length (moves_of first to) ≡ first + length to
moves_length first to =
    let stayed : List (Option ℕ) = map (λ r. Some r) (range_with_len 0 first) in
    omega (arith, length-append stayed to, length-map-range_with_len (λ (r : ℕ). Some r) 0 first)

-- a clause that stayed
pub move_stayed : (first r : ℕ) (to : List (Option ℕ)) → r < first → move_of (moves_of first to) r ≡ Some r
move_stayed first r to lt =
    let stayed : List (Option ℕ) = map (λ r. Some r) (range_with_len 0 first) in
    get_or_append_left stayed to None r (omega (arith, length-map-range_with_len (λ (r : ℕ). Some r) 0 first))
    ∙ get_or-map-range_with_len (λ (r : ℕ). Some r) 0 first r r None lt (omega arith)

-- one that is behind those
pub move_behind : (first r k : ℕ) (to : List (Option ℕ)) → first ≤ r → k ≡ r - first → move_of (moves_of first to) r ≡ move_of to k
move_behind first r k to past is =
    let stayed : List (Option ℕ) = map (λ r. Some r) (range_with_len 0 first) in
    let size : length stayed ≡ first = length-map-range_with_len (λ (r : ℕ). Some r) 0 first in
    get_or-append_right stayed to first r None size past ∙ ap (move_of to) (sym is)

-- one move more
moves_more : (l : Literals) (s : List ℕ) (m : List Mark) (first place : ℕ) (to : List (Option ℕ)) (x : Option ℕ)
    → first + length to ≡ place
    → ((r : ℕ) → r < place → move_of (moves_of first to) r ≡ moved_to (laid_entries l s m) r)
    → x ≡ moved_to (laid_entries l s m) place
    → (r : ℕ) → r < place + 1 → move_of (moves_of first (to ++ x ∷ [])) r ≡ moved_to (laid_entries l s m) r
moves_more l s m first place to x count before new r lt =
    let stayed : List (Option ℕ) = map (λ r. Some r) (range_with_len 0 first) in
    let size = moves_length first to in
    ap (λ (ms : List (Option ℕ)). move_of ms r) (sym (append_assoc stayed to (x ∷ []))) ∙ ⊎_elim
    (λ (old : r < place). get_or_append_left (stayed ++ to) (x ∷ []) None r (omega (arith, size)) ∙ before r old)
    (λ (past : place ≤ r).
    let at : r ≡ place = omega arith in
    get_or_push (stayed ++ to) x None r (omega (arith, size)) ∙ new ∙ ap (moved_to (laid_entries l s m)) (sym at))
    (cases_lt r place)

-- past the end nothing is moved
pub moved_past : (a : Entries) (r : ℕ) → length a ≤ r → moved_to a r ≡ None
moved_past a r past =
    ap (λ (n : ℕ). cond (entry_at a r).live (Some n) None) (sym (length-filter is_live (take r a)))
    ∙ ap (λ (e : Entry). cond e.live (Some (length (live_entries (take r a)))) None) (get_or_past a r no_entry past)

-- where a live clause goes
moved_live : (a : Entries) (r n : ℕ) → (entry_at a r).live ≡ true → length (live_entries (take r a)) ≡ n → moved_to a r ≡ Some n
moved_live a r n live count =
    ap (λ (k : ℕ). cond (entry_at a r).live (Some k) None) (sym (length-filter is_live (take r a)))
    ∙ ap (λ b. cond b (Some (length (live_entries (take r a)))) None) live
    ∙ ap (λ (k : ℕ). Some k) count

-- ---- the start

-- where all are live, all stay
pub all_live : (a : Entries) (first n : ℕ) → first ≤ length a → ((k : ℕ) → k < first → (entry_at a k).live ≡ true) → n ≤ first
    → live_entries (take n a) ≡ take n a
all_live a first zero fits live le = refl
all_live a first (suc n) fits live le =
    let next : suc n ≡ n + 1 = omega arith in
    let here : n < length a = omega arith in
    ap (λ (k : ℕ). live_entries (take k a)) next ∙ filter_more is_live a n no_entry here
    ∙ ap (λ b. live_entries (take n a) ++ cond b (entry_at a n ∷ []) []) (live n (omega arith))
    ∙ ap (λ (es : Entries). es ++ entry_at a n ∷ []) (all_live a first n fits live (omega arith))
    ∙ sym (take_more a n no_entry here) ∙ ap (λ (k : ℕ). take k a) (sym next)

moved_stayed : (a : Entries) (first r : ℕ) → first ≤ length a → ((k : ℕ) → k < first → (entry_at a k).live ≡ true) → r < first
    → moved_to a r ≡ Some r
moved_stayed a first r fits live lt =
    moved_live a r r (live r lt)
    (ap length (all_live a first r fits live (omega arith)) ∙ length-take-le r a (omega arith))

live_laid : (l : Literals) (s : List ℕ) (m : List Mark) (first : ℕ) → first ≤ length m
    → ((k : ℕ) → k < first → (mark_at m k).live ≡ true) → (k : ℕ) → k < first → (entry_at (laid_entries l s m) k).live ≡ true
live_laid l s m first fits live k lt = ap (λ (e : Entry). e.live) (laid_at l s m k (omega arith)) ∙ live k lt

-- no clause was removed
pub none_removed : (l : Literals) (s : List ℕ) (m : List Mark) (first : ℕ) → first ≡ length m
    → ((k : ℕ) → k < first → (mark_at m k).live ≡ true) → laid_entries l s m ≡ live_entries (laid_entries l s m)
none_removed l s m first whole live =
    let a = laid_entries l s m in
    let size = length-laid l s m in
    sym (take_all first a (omega arith)) ∙ sym (all_live a first first (omega arith) (live_laid l s m first (omega arith) live) (omega arith))
    ∙ ap live_entries (take_all first a (omega arith))

pub none_moved : (l : Literals) (s : List ℕ) (m : List Mark) (first : ℕ) (to : List (Option ℕ)) → first ≡ length m → to ≡ []
    → ((k : ℕ) → k < first → (mark_at m k).live ≡ true) → (r : ℕ) → move_of (moves_of first to) r ≡ moved_to (laid_entries l s m) r
none_moved l s m first to whole none live r =
    let a = laid_entries l s m in
    let size = length-laid l s m in
    let count : length to ≡ 0 = ap length none in
    ⊎_elim
    (λ (lt : r < first).
    move_stayed first r to lt ∙ sym (moved_stayed a first r (omega arith) (live_laid l s m first (omega arith) live) lt))
    (λ (past : first ≤ r).
    get_or_past (moves_of first to) r None (omega (arith, moves_length first to)) ∙ sym (moved_past a r (omega arith)))
    (cases_lt r first)

pub sunk_start : (l : Literals) (s : List ℕ) (m : List Mark) (first : ℕ) (to : List (Option ℕ)) → IsLaidOut l s m → first < length m
    → ((k : ℕ) → k < first → (mark_at m k).live ≡ true) → length to ≡ 0 → IsSunk l s m first first first to l s m
sunk_start l s m first to laid some live none =
    let a = laid_entries l s m in
    let size = length-laid l s m in
    let alive = live_laid l s m first (omega arith) live in
    let same = all_live a first first (omega arith) alive (omega arith) in record {
      down = omega arith;
      before = omega arith;
      count = omega arith;
      moves = λ r lt. move_stayed first r to lt ∙ sym (moved_stayed a first r (omega arith) alive lt);
      front = record {
        size = ap length same ∙ length-take-le first a (omega arith);
        starts = omega (arith, laid.at_least (omega arith));
        marks = omega arith;
        first = laid.first;
        rising = λ i j ordered within. laid.rising i j ordered (omega arith);
        fits = omega (arith, laid.rising first (length m) (omega arith) (omega arith), laid.last);
        entries = λ k lt.
            ap (λ (es : Entries). entry_at es k) same ∙ get_or-take first a k no_entry lt ∙ laid_at l s m k (omega arith);
      };
      rest = record {
        size = refl;
        starts_size = refl;
        marks_size = refl;
        lits = λ k past. refl;
        starts = λ k past. refl;
        marks = λ k past. refl;
      };
    }

-- ---- a removed clause

rest_behind : (l : Literals) (s : List ℕ) (m : List Mark) (place : ℕ) (l' : Literals) (s' : List ℕ) (m' : List Mark)
    → IsLaidOut l s m → place < length m → IsRest l s m place l' s' m' → IsRest l s m (place + 1) l' s' m'
rest_behind l s m place l' s' m' laid here h =
    let rises = laid.rising place (place + 1) (omega arith) (omega arith) in record {
      size = h.size;
      starts_size = h.starts_size;
      marks_size = h.marks_size;
      lits = λ k past. h.lits k (omega arith);
      starts = λ k past. h.starts k (omega arith);
      marks = λ k past. h.marks k (omega arith);
    }

-- the mark of a place that is yet to come is the entry's
live_there : (l : Literals) (s : List ℕ) (m : List Mark) (place : ℕ) (l' : Literals) (s' : List ℕ) (m' : List Mark) (x : Mark)
    → place < length m → IsRest l s m place l' s' m' → x ≡ get_or m' place x → x.live ≡ (entry_at (laid_entries l s m) place).live
live_there l s m place l' s' m' x here h read =
    let is : x ≡ mark_at m' place = get_or_read m' place x (omega (arith, h.marks_size)) read no_mark in
    ap (λ (y : Mark). y.live) (is ∙ h.marks place (omega arith)) ∙ sym (ap (λ (e : Entry). e.live) (laid_at l s m place here))

pub sunk_removed : (l : Literals) (s : List ℕ) (m : List Mark) (first place kept : ℕ) (to to' : List (Option ℕ)) (l' : Literals)
    (s' : List ℕ) (m' : List Mark) (x : Mark) → IsLaidOut l s m → place < length m → IsSunk l s m first place kept to l' s' m'
    → x ≡ get_or m' place x → x.live ≡ false → to' ≡ to ++ None ∷ [] → IsSunk l s m first (place + 1) kept to' l' s' m'
sunk_removed l s m first place kept to to' l' s' m' x laid here h read dead pushed =
    let a = laid_entries l s m in
    let gone : (entry_at a place).live ≡ false = sym (live_there l s m place l' s' m' x here h.rest read) ∙ dead in
    let within : place < length a = omega (arith, length-laid l s m) in
    let rises = laid.rising place (place + 1) (omega arith) (omega arith) in
    let same : live_entries (take (place + 1) a) ≡ live_entries (take place a) = filter_more is_live a place no_entry within
    ∙ ap (λ b. live_entries (take place a) ++ cond b (entry_at a place ∷ []) []) gone ∙ append-nil (live_entries (take place a)) in
    let nowhere : None ≡ moved_to a place = sym (ap (λ b. cond b (Some (count_by is_live (take place a))) None) gone) in record {
      down = omega (arith, h.down);
      before = omega (arith, h.before);
      count = omega (arith, h.count, ap length pushed, length_push to None);
      moves = λ r lt.
          ap (λ (ts : List (Option ℕ)). move_of (moves_of first ts) r) pushed
          ∙ moves_more l s m first place to None h.count h.moves nowhere r lt;
      front = subst (λ (es : Entries). IsFront l' s' m' es kept) (sym same) h.front;
      rest = rest_behind l s m place l' s' m' laid here h.rest;
    }

-- ---- a live clause

-- the front with the clause of a later place moved behind it
front_more : (l : Literals) (s : List ℕ) (m : List Mark) (a : Entries) (place kept : ℕ) (l' : Literals) (s' : List ℕ) (m' : List Mark)
    → IsFront l s m a kept → place < length m → place + 1 < length s → kept ≤ place → get_or s kept 0 ≤ get_or s place 0
    → get_or s place 0 ≤ get_or s (place + 1) 0 → get_or s (place + 1) 0 ≤ length l → IsOneDown l s m place kept l' s' m'
    → IsFront l' s' m' (a ++ laid_entry l s m place ∷ []) (kept + 1)
front_more l s m a place kept l' s' m' h here starts le before rises within step =
    let end = get_or s kept 0 + (get_or s (place + 1) 0 - get_or s place 0) in
    let e = laid_entry l s m place in
    let starts_size : length s' ≡ length s = ap length step.starts ∙ length-set s (kept + 1) end in
    let marks_size : length m' ≡ length m = ap length step.marks ∙ length-set m kept (mark_at m place) in
    let new_end : get_or s' (kept + 1) 0 ≡ end = ap (λ (ss : List ℕ). get_or ss (kept + 1) 0) step.starts
    ∙ get_or-set_same s (kept + 1) end 0 (omega arith) in
    let old_start : (k : ℕ) → k < kept + 1 → get_or s' k 0 ≡ get_or s k 0 = λ k lt. ap (λ (ss : List ℕ). get_or ss k 0) step.starts
    ∙ get_or-set_other s (kept + 1) k end 0 (λ e. omega arith) in
    let new_mark : mark_at m' kept ≡ mark_at m place = ap (λ (ms : List Mark). mark_at ms kept) step.marks
    ∙ get_or-set_same m kept (mark_at m place) no_mark (omega arith) in
    let old_mark : (k : ℕ) → k < kept → mark_at m' k ≡ mark_at m k = λ k lt. ap (λ (ms : List Mark). mark_at ms k) step.marks
    ∙ get_or-set_other m kept k (mark_at m place) no_mark (λ e. omega arith) in
    let start_here = old_start kept (omega arith) in
    record {
      size = length_push a e ∙ ap (λ (n : ℕ). n + 1) h.size;
      starts = omega arith;
      marks = omega arith;
      first = old_start 0 (omega arith) ∙ h.first;
      rising = λ i j ordered inside. ⊎_elim
          (λ (old : j < kept + 1).
          omega (arith, old_start i (omega arith), old_start j old, h.rising i j ordered (omega arith)))
          (λ (past : kept + 1 ≤ j).
          let at : j ≡ kept + 1 = omega arith in
          let high : get_or s' j 0 ≡ end = ap (λ (n : ℕ). get_or s' n 0) at ∙ new_end in
          ⊎_elim
          (λ (low : i < kept + 1). omega (arith, high, old_start i low, h.rising i kept (omega arith) (omega arith)))
          (λ (same : kept + 1 ≤ i). omega (arith, ap (λ (n : ℕ). get_or s' n 0) (let is : i ≡ j = omega arith in is)))
          (cases_lt i (kept + 1)))
          (cases_lt j (kept + 1));
      fits = omega (arith, new_end, step.size);
      entries = λ k lt. ⊎_elim
          (λ (old : k < kept).
          let low = old_start k (omega arith) in
          let high = old_start (k + 1) (omega arith) in
          let below = h.rising (k + 1) kept (omega arith) (omega arith) in
          get_or_append_left a (e ∷ []) no_entry k (omega (arith, h.size)) ∙ h.entries k old
          ∙ same_laid l l' s s' m m' k k (sym (old_mark k old))
          (same_part l l' (get_or s k 0) (get_or s (k + 1) 0) (get_or s' k 0) (get_or s' (k + 1) 0) (omega arith) (omega (arith, step.size)) (omega arith)
          (λ i inside. sym (step.before (get_or s k 0 + i) (omega arith))
          ∙ ap (λ (n : ℕ). get_or l' (n + i) no_literal) (sym low))))
          (λ (past : kept ≤ k).
          let at : k ≡ kept = omega arith in
          get_or_push a e no_entry k (omega (arith, h.size))
          ∙ same_laid l l' s s' m m' place kept (sym new_mark)
          (same_part l l' (get_or s place 0) (get_or s (place + 1) 0) (get_or s' kept 0) (get_or s' (kept + 1) 0) within (omega (arith, step.size)) (omega arith)
          (λ i inside. sym (step.lits i inside) ∙ ap (λ (n : ℕ). get_or l' (n + i) no_literal) (sym start_here)))
          ∙ ap (laid_entry l' s' m') (sym at))
          (cases_lt k kept);
    }

rest_more : (l : Literals) (s : List ℕ) (m : List Mark) (place kept : ℕ) (l₁ : Literals) (s₁ : List ℕ) (m₁ : List Mark) (l₂ : Literals)
    (s₂ : List ℕ) (m₂ : List Mark) → IsLaidOut l s m → place < length m → kept ≤ place → IsRest l s m place l₁ s₁ m₁
    → IsOneDown l₁ s₁ m₁ place kept l₂ s₂ m₂ → IsRest l s m (place + 1) l₂ s₂ m₂
rest_more l s m place kept l₁ s₁ m₁ l₂ s₂ m₂ laid here le h step =
    let rises = laid.rising place (place + 1) (omega arith) (omega arith) in
    let from = h.starts place (omega arith) in
    let to = h.starts (place + 1) (omega arith) in
    let end = get_or s₁ kept 0 + (get_or s₁ (place + 1) 0 - get_or s₁ place 0) in
    let starts = laid.at_least (omega arith) in record {
      size = step.size ∙ h.size;
      starts_size = ap length step.starts ∙ length-set s₁ (kept + 1) end ∙ h.starts_size;
      marks_size = ap length step.marks ∙ length-set m₁ kept (mark_at m₁ place) ∙ h.marks_size;
      lits = λ k past. step.behind k (omega arith) ∙ h.lits k (omega arith);
      starts = λ k past.
          ap (λ (ss : List ℕ). get_or ss k 0) step.starts ∙ ⊎_elim
          (λ (at : k ≡ kept + 1).
          let same : kept ≡ place = omega arith in
          ap (λ (n : ℕ). get_or (set s₁ (kept + 1) end) n 0) at
          ∙ get_or-set_same s₁ (kept + 1) end 0 (omega (arith, h.starts_size))
          ∙ (let is : end ≡ get_or s k 0 = omega (
            arith,
            ap (λ (n : ℕ). get_or s₁ n 0) same,
            from,
            to,
            ap (λ (n : ℕ). get_or s n 0) (let e : place + 1 ≡ k = omega arith in e),
          ) in is))
          (λ (other : k ≢ kept + 1). get_or-set_other s₁ (kept + 1) k end 0 other ∙ h.starts k (omega arith))
          (cases_eq k (kept + 1));
      marks = λ k past.
          ap (λ (ms : List Mark). mark_at ms k) step.marks
          ∙ get_or-set_other m₁ kept k (mark_at m₁ place) no_mark (λ e. omega arith) ∙ h.marks k (omega arith);
    }

-- the entry of a place that is yet to come
entry_there : (l : Literals) (s : List ℕ) (m : List Mark) (place : ℕ) (l' : Literals) (s' : List ℕ) (m' : List Mark) → IsLaidOut l s m
    → place < length m → IsRest l s m place l' s' m' → laid_entry l' s' m' place ≡ entry_at (laid_entries l s m) place
entry_there l s m place l' s' m' laid here h =
    let from = h.starts place (omega arith) in
    let to = h.starts (place + 1) (omega arith) in
    let high = laid.rising (place + 1) (length m) (omega arith) (omega arith) in
    same_laid l' l s' s m' m place place (h.marks place (omega arith))
    (same_part l' l (get_or s' place 0) (get_or s' (place + 1) 0) (get_or s place 0) (get_or s (place + 1) 0)
    (omega (arith, laid.last, h.size)) (omega (arith, laid.last)) (omega arith)
    (λ k lt. h.lits (get_or s' place 0 + k) (omega arith) ∙ ap (λ (n : ℕ). get_or l (n + k) no_literal) from))
    ∙ sym (laid_at l s m place here)

pub sunk_live : (l : Literals) (s : List ℕ) (m : List Mark) (first place kept at : ℕ) (to to' : List (Option ℕ)) (l₁ : Literals) (s₁ : List ℕ)
    (m₁ : List Mark) (l₂ : Literals) (s₂ : List ℕ) (m₂ : List Mark) (x : Mark) → IsLaidOut l s m → place < length m
    → IsSunk l s m first place kept to l₁ s₁ m₁ → x ≡ get_or m₁ place x → x.live ≡ true
    → IsOneDown l₁ s₁ m₁ place kept l₂ s₂ m₂ → at ≡ kept → to' ≡ to ++ Some at ∷ []
    → IsSunk l s m first (place + 1) (kept + 1) to' l₂ s₂ m₂
sunk_live l s m first place kept at to to' l₁ s₁ m₁ l₂ s₂ m₂ x laid here h read live step is pushed =
    let a = laid_entries l s m in
    let alive : (entry_at a place).live ≡ true = sym (live_there l s m place l₁ s₁ m₁ x here h.rest read) ∙ live in
    let within : place < length a = omega (arith, length-laid l s m) in
    let rises = laid.rising place (place + 1) (omega arith) (omega arith) in
    let high = laid.rising (place + 1) (length m) (omega arith) (omega arith) in
    let from = h.rest.starts place (omega arith) in
    let end = h.rest.starts (place + 1) (omega arith) in
    let same : live_entries (take place a) ++ laid_entry l₁ s₁ m₁ place ∷ [] ≡ live_entries (take (place + 1) a) =
    ap (λ (e : Entry). live_entries (take place a) ++ e ∷ []) (entry_there l s m place l₁ s₁ m₁ laid here h.rest)
    ∙ sym (ap (λ b. live_entries (take place a) ++ cond b (entry_at a place ∷ []) []) alive)
    ∙ sym (filter_more is_live a place no_entry within) in
    let new : Some at ≡ moved_to a place = ap (λ (n : ℕ). Some n) is
    ∙ sym (moved_live a place kept alive h.front.size) in
    let new_end : get_or s₂ (kept + 1) 0 ≡ get_or s₁ kept 0 + (get_or s₁ (place + 1) 0 - get_or s₁ place 0) =
    ap (λ (ss : List ℕ). get_or ss (kept + 1) 0) step.starts
    ∙ get_or-set_same s₁ (kept + 1) (get_or s₁ kept 0 + (get_or s₁ (place + 1) 0 - get_or s₁ place 0)) 0 (omega (arith, h.front.starts, h.down, h.rest.starts_size, laid.at_least (omega arith))) in record {
      down = omega (arith, h.down);
      before = omega (arith, h.before);
      count = omega (arith, h.count, ap length pushed, length_push to (Some at));
      moves = λ r lt.
          ap (λ (ts : List (Option ℕ)). move_of (moves_of first ts) r) pushed
          ∙ moves_more l s m first place to (Some at) h.count h.moves new r lt;
      front = subst (λ (es : Entries). IsFront l₂ s₂ m₂ es (kept + 1)) same
          (front_more l₁ s₁ m₁ (live_entries (take place a)) place kept l₂ s₂ m₂ h.front (omega (arith, h.rest.marks_size))
          (omega (arith, h.rest.starts_size, laid.at_least (omega arith))) h.down (omega (arith, h.before)) (omega arith)
          (omega (arith, laid.last, h.rest.size)) step);
      rest = rest_more l s m place kept l₁ s₁ m₁ l₂ s₂ m₂ laid here h.down h.rest step;
    }

-- ---- the end

pub record IsCompact (l : Literals) (s : List ℕ) (m : List Mark) (l' : Literals) (s' : List ℕ) (m' : List Mark) : Type 0 where
  pub laid : IsLaidOut l' s' m'
  pub entries : laid_entries l' s' m' ≡ live_entries (laid_entries l s m)

pub sunk_end : (l : Literals) (s : List ℕ) (m : List Mark) (first kept end : ℕ) (to : List (Option ℕ)) (l₁ : Literals) (s₁ : List ℕ)
    (m₁ : List Mark) (l₂ : Literals) (s₂ : List ℕ) (m₂ : List Mark) → IsLaidOut l s m → IsSunk l s m first (length m) kept to l₁ s₁ m₁
    → end ≡ get_or s₁ kept 0 → l₂ ≡ take end l₁ → s₂ ≡ take (kept + 1) s₁ → m₂ ≡ take kept m₁ → IsCompact l s m l₂ s₂ m₂
sunk_end l s m first kept end to l₁ s₁ m₁ l₂ s₂ m₂ laid h at lits starts marks =
    let f = h.front in
    let a = laid_entries l s m in
    let whole : live_entries (take (length m) a) ≡ live_entries a = ap live_entries (take_all (length m) a (omega (arith, length-laid l s m))) in
    let l_size : length l₂ ≡ end = ap length lits ∙ length-take-le end l₁ (omega (arith, f.fits)) in
    let s_size : length s₂ ≡ kept + 1 = ap length starts ∙ length-take-le (kept + 1) s₁ (omega (arith, f.starts)) in
    let m_size : length m₂ ≡ kept = ap length marks ∙ length-take-le kept m₁ f.marks in
    let s_at : (k : ℕ) → k < kept + 1 → get_or s₂ k 0 ≡ get_or s₁ k 0 = λ k lt. ap (λ (ss : List ℕ). get_or ss k 0) starts
    ∙ get_or-take (kept + 1) s₁ k 0 lt in
    let m_at : (k : ℕ) → k < kept → mark_at m₂ k ≡ mark_at m₁ k = λ k lt. ap (λ (ms : List Mark). mark_at ms k) marks
    ∙ get_or-take kept m₁ k no_mark lt in
    let l_at : (k : ℕ) → k < end → get_or l₂ k no_literal ≡ get_or l₁ k no_literal =
    λ k lt. ap (λ (ls : Literals). get_or ls k no_literal) lits ∙ get_or-take end l₁ k no_literal lt in
    record {
      laid = record {
        at_most = omega arith;
        at_least = λ some. omega arith;
        first = s_at 0 (omega arith) ∙ f.first;
        last = ap (λ (n : ℕ). get_or s₂ n 0) m_size ∙ s_at kept (omega arith) ∙ sym at ∙ sym l_size;
        rising = λ i j ordered within.
            omega (arith, s_at i (omega arith), s_at j (omega arith), f.rising i j ordered (omega arith));
        literals_limit = omega (arith, f.fits, h.rest.size, laid.literals_limit);
        clauses_limit = omega (arith, f.marks, h.rest.marks_size, laid.clauses_limit);
      };
      entries = ext_get_or no_entry (laid_entries l₂ s₂ m₂) (live_entries a)
          (omega (arith, length-laid l₂ s₂ m₂, f.size, ap length whole))
          (λ k within.
          let lt : k < kept = omega (arith, length-laid l₂ s₂ m₂) in
          let low = s_at k (omega arith) in
          let high = s_at (k + 1) (omega arith) in
          let below = f.rising (k + 1) kept (omega arith) (omega arith) in
          laid_at l₂ s₂ m₂ k (omega arith)
          ∙ same_laid l₂ l₁ s₂ s₁ m₂ m₁ k k (m_at k lt)
          (same_part l₂ l₁ (get_or s₂ k 0) (get_or s₂ (k + 1) 0) (get_or s₁ k 0) (get_or s₁ (k + 1) 0) (omega arith)
          (omega (arith, f.fits)) (omega arith)
          (λ i inside. l_at (get_or s₂ k 0 + i) (omega arith) ∙ ap (λ (n : ℕ). get_or l₁ (n + i) no_literal) low))
          ∙ sym (f.entries k lt) ∙ ap (λ (es : Entries). entry_at es k) whole);
    }

pub moved_everywhere : (l : Literals) (s : List ℕ) (m : List Mark) (first kept : ℕ) (to : List (Option ℕ)) (l₁ : Literals) (s₁ : List ℕ)
    (m₁ : List Mark) → IsSunk l s m first (length m) kept to l₁ s₁ m₁
    → (r : ℕ) → move_of (moves_of first to) r ≡ moved_to (laid_entries l s m) r
moved_everywhere l s m first kept to l₁ s₁ m₁ h r =
    ⊎_elim
    (λ (lt : r < length m). h.moves r lt)
    (λ (past : length m ≤ r).
    get_or_past (moves_of first to) r None (omega (arith, moves_length first to, h.count))
    ∙ sym (moved_past (laid_entries l s m) r (omega (arith, length-laid l s m))))
    (cases_lt r (length m))
