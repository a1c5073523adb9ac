-- The watches follow a compaction of the arena.
use Rattle.std.proofs.Common.{◌≡◌, ◌≢◌, ℕ, ◌+◌, ◌<◌, ◌≤◌, Option, Some, None, List, [], ◌∷◌, ◌++◌, length, get_or, set, take, map}
use Rattle.std.proofs.Common.{Vec, refl, sym, ap, ◌∙◌, ⊎_elim, arith, append-nil}
use Rattle.std.specs.List.{cons_option}
use Rattle.std.proofs.lemmas.List.{length-set, get_or-set_same, get_or-set_other, get_or-map, length-map, map-set, get_or_read, take_all}
use Rattle.std.proofs.lemmas.List.{take_more, take_more_set, ext_get_or}
use Rattle.std.proofs.lemmas.List.Elements.{filter_map-append}
use Rattle.std.proofs.lemmas.Bool.{cases_eq}
use Rattle.watch_lists.specs.Watchers.{Watcher}
use Rattle.watch_lists.specs.Lists.{no_watch}
use Rattle.watch_lists.specs.Moving.{moved_watch, moved_list}
use Rattle.watch_lists.proofs.Viewed.{lists_in}

-- ---- one list

-- the watches before a place are moved to the front, and those from it on are as they were
pub record IsMoving (moves : List (Option ℕ)) (old xs : List Watcher) (at kept : ℕ) : Type 0 where
  pub size : length xs ≡ length old
  pub down : kept ≤ at
  pub within : at ≤ length old
  pub front : take kept xs ≡ moved_list moves (take at old)
  pub rest : (k : ℕ) → at ≤ k → get_or xs k no_watch ≡ get_or old k no_watch

pub moving_start : (moves : List (Option ℕ)) (old : List Watcher) → IsMoving moves old old 0 0
moving_start moves old = record {
  size = refl;
  down = omega arith;
  within = omega arith;
  front = refl;
  rest = λ k past. refl;
}

moved_more : (moves : List (Option ℕ)) (old xs : List Watcher) (at : ℕ) (x : Watcher) → length xs ≡ length old → at < length old
    → x ≡ get_or xs at x → ((k : ℕ) → at ≤ k → get_or xs k no_watch ≡ get_or old k no_watch)
    → moved_list moves (take (at + 1) old) ≡ moved_list moves (take at old) ++ moved_list moves (x ∷ [])
moved_more moves old xs at x size lt read rest =
    let is : get_or old at no_watch ≡ x = sym (get_or_read xs at x (omega (arith, size)) read no_watch ∙ rest at (omega arith)) in
    ap (moved_list moves) (take_more old at no_watch lt ∙ ap (λ (y : Watcher). take at old ++ y ∷ []) is)
    ∙ filter_map-append (moved_watch moves) (take at old) (x ∷ [])

not_some : (o : Option Watcher) → ((y : Watcher) → o ≡ Some y → ⊥) → o ≡ None
not_some None none = refl
not_some (Some y) none = absurd (none y refl)

pub moving_gone : (moves : List (Option ℕ)) (old xs : List Watcher) (at kept : ℕ) (x : Watcher) → IsMoving moves old xs at kept
    → at < length old → x ≡ get_or xs at x → ((y : Watcher) → moved_watch moves x ≡ Some y → ⊥) → IsMoving moves old xs (at + 1) kept
moving_gone moves old xs at kept x h lt read gone = record {
  size = h.size;
  down = omega (arith, h.down);
  within = omega arith;
  front = h.front ∙ sym (append-nil (moved_list moves (take at old)))
      ∙ ap (λ o. moved_list moves (take at old) ++ cons_option o []) (sym (not_some (moved_watch moves x) gone))
      ∙ sym (moved_more moves old xs at x h.size lt read h.rest);
  rest = λ k past. h.rest k (omega arith);
}

pub moving_kept : (moves : List (Option ℕ)) (old xs : List Watcher) (at kept : ℕ) (x y : Watcher) → IsMoving moves old xs at kept
    → at < length old → x ≡ get_or xs at x → moved_watch moves x ≡ Some y → IsMoving moves old (set xs kept y) (at + 1) (kept + 1)
moving_kept moves old xs at kept x y h lt read stays = record {
  size = length-set xs kept y ∙ h.size;
  down = omega (arith, h.down);
  within = omega arith;
  front = take_more_set xs kept y (omega (arith, h.down, h.size)) ∙ ap (λ zs. zs ++ y ∷ []) h.front
      ∙ ap (λ o. moved_list moves (take at old) ++ cons_option o []) (sym stays)
      ∙ sym (moved_more moves old xs at x h.size lt read h.rest);
  rest = λ k past. get_or-set_other xs kept k y no_watch (λ e. omega (arith, h.down)) ∙ h.rest k (omega arith);
}

pub moving_end : (moves : List (Option ℕ)) (old xs : List Watcher) (at kept : ℕ) → IsMoving moves old xs at kept → length old ≤ at
    → take kept xs ≡ moved_list moves old
moving_end moves old xs at kept h past = h.front ∙ ap (moved_list moves) (take_all at old past)

-- ---- all lists

pub record AreMoving (moves : List (Option ℕ)) (old ls : List (List Watcher)) (at : ℕ) : Type 0 where
  pub size : length ls ≡ length old
  pub done : (k : ℕ) → k < at → get_or ls k [] ≡ moved_list moves (get_or old k [])
  pub rest : (k : ℕ) → at ≤ k → get_or ls k [] ≡ get_or old k []

pub all_start : (moves : List (Option ℕ)) (old : List (List Watcher)) → AreMoving moves old old 0
all_start moves old = record { size = refl; done = λ k lt. absurd (omega arith); rest = λ k past. refl }

pub all_more : {Z : Type 0} (moves : List (Option ℕ)) (old : List (List Watcher)) (vs : List (Vec Watcher Z)) (at : ℕ) (u v : Vec Watcher Z)
    → AreMoving moves old (lists_in vs) at → at < length vs → u ≡ get_or vs at u → v.items ≡ moved_list moves u.items
    → AreMoving moves old (lists_in (set vs at v)) (at + 1)
all_more moves old vs at u v h lt read is =
    let e : lists_in (set vs at v) ≡ set (lists_in vs) at v.items = map-set (λ u. u.items) vs at v in
    let size : length (lists_in vs) ≡ length vs = length-map vs (λ u. u.items) in
    let was : u.items ≡ get_or old at [] = ap (λ w. w.items) read ∙ sym (get_or-map (λ w. w.items) vs at u [] lt)
    ∙ h.rest at (omega arith) in
    record {
      size = ap length e ∙ length-set (lists_in vs) at v.items ∙ h.size;
      done = λ k before. ap (λ ls. get_or ls k []) e ∙ ⊎_elim
          (λ (here : k ≡ at).
          ap (λ n. get_or (set (lists_in vs) at v.items) n []) here
          ∙ get_or-set_same (lists_in vs) at v.items [] (omega arith) ∙ is ∙ ap (moved_list moves) was
          ∙ ap (λ n. moved_list moves (get_or old n [])) (sym here))
          (λ (other : k ≢ at). get_or-set_other (lists_in vs) at k v.items [] other ∙ h.done k (omega arith))
          (cases_eq k at);
      rest = λ k past.
          ap (λ ls. get_or ls k []) e ∙ get_or-set_other (lists_in vs) at k v.items [] (λ e. omega arith) ∙ h.rest k (omega arith);
    }

pub all_end : (moves : List (Option ℕ)) (old ls : List (List Watcher)) (at : ℕ) → AreMoving moves old ls at → length old ≤ at
    → ls ≡ map (moved_list moves) old
all_end moves old ls at h past =
    let size : length (map (moved_list moves) old) ≡ length old = length-map old (moved_list moves) in
    ext_get_or [] ls (map (moved_list moves) old) (omega (arith, h.size))
    (λ k within. h.done k (omega (arith, h.size)) ∙ sym (get_or-map (moved_list moves) old k [] [] (omega (arith, h.size))))
