-- The lists as the fields hold them.
use Rattle.std.proofs.Common.{◌≡◌, ◌≢◌, ℕ, ◌+◌, ◌*◌, ◌<◌, ◌≤◌, List, [], ◌∷◌, ◌++◌, ◌-◌, Vec, length, map, replicate, swap_remove, take}
use Rattle.std.proofs.Common.{drop, get_or, set, Result, Ok, Err, OnErr, sym, ap, ◌∙◌, ⊎_elim, arith}
use Rattle.std.proofs.lemmas.List.{get_or-map, map-set, set-get_or, length-map, map-append, get_or-set_same, get_or-set_other}
use Rattle.std.proofs.lemmas.List.{length-replicate, get_or-replicate, get_or_default, ext_get_or}
use Rattle.std.proofs.lemmas.Grind.{replicate_next}
use Rattle.std.proofs.lemmas.Bool.{cases_eq}
use Rattle.std.proofs.Math.Seq.{take-append_seam}
use Rattle.std.specs.Vec.{with_items}
use Rattle.cnf_core.specs.Literals.{Literal, code_of, IsWithin}
use Rattle.trail_core.proofs.Lookups.{code_within}
use Rattle.watch_lists.specs.Watchers.{Watcher}
use Rattle.watch_lists.specs.Lists.{WatchLists, no_watch, list_of, with_list}

abbrev pub lists_in : {Z : Type 0} → List (Vec Watcher Z) → List (List Watcher)
lists_in vs = map (λ v. v.items) vs

abbrev pub held : {Z : Type 0} → List (Vec Watcher Z) → ℕ → WatchLists
held vs n = record { lists = lists_in vs; vars = n }

pub list_here : {Z : Type 0} (vs : List (Vec Watcher Z)) (n i : ℕ) (l : Literal) (v : Vec Watcher Z) → length vs ≡ 2 * n + 2
    → IsWithin n l → i ≡ code_of l → v ≡ get_or vs i v → v.items ≡ list_of (held vs n) l
list_here vs n i l v size within is read =
    let lt : i < length vs = omega (arith, code_within n l within) in
    ap (λ u. u.items) read ∙ sym (get_or-map (λ u. u.items) vs i v [] lt)
    ∙ ap (λ c. get_or (lists_in vs) c []) is

pub list_changed : {Z : Type 0} (vs : List (Vec Watcher Z)) (n i : ℕ) (l : Literal) (v : Vec Watcher Z) (xs : List Watcher)
    → i ≡ code_of l → v.items ≡ xs → held (set vs i v) n ≡ with_list (held vs n) l xs
list_changed vs n i l v xs is items =
    ap (λ (ls : List (List Watcher)). record { lists = ls; vars = n })
    (map-set (λ u. u.items) vs i v ∙ ap (λ c. set (lists_in vs) c v.items) is ∙ ap (λ ys. set (lists_in vs) (code_of l) ys) items)

-- a list that stays
pub list_same : (w : WatchLists) (l : Literal) → with_list w l (list_of w l) ≡ w
list_same w l = ap (λ ls. record w { lists = ls }) (set-get_or w.lists (code_of l) [])

-- the lists before a place are empty
abbrev pub AreClear : List (List Watcher) → ℕ → Type 0
AreClear ls n = (k : ℕ) → k < n → get_or ls k [] ≡ []

pub clear_more : {Z : Type 0} (vs : List (Vec Watcher Z)) (i : ℕ) (v : Vec Watcher Z) → i < length vs → v.items ≡ []
    → AreClear (lists_in vs) i → AreClear (lists_in (set vs i v)) (i + 1)
clear_more vs i v lt none before k within =
    let e : lists_in (set vs i v) ≡ set (lists_in vs) i v.items = map-set (λ u. u.items) vs i v in
    let fits : i < length (lists_in vs) = omega (arith, length-map vs (λ u. u.items)) in
    ap (λ ls. get_or ls k []) e ∙ ⊎_elim
    (λ (at : k ≡ i).
    ap (λ n. get_or (set (lists_in vs) i v.items) n []) at ∙ get_or-set_same (lists_in vs) i v.items [] fits ∙ none)
    (λ (other : k ≢ i). get_or-set_other (lists_in vs) i k v.items [] other ∙ before k (omega arith))
    (cases_eq k i)

pub all_clear : {Z : Type 0} (vs : List (Vec Watcher Z)) (n m : ℕ) → length vs ≡ m → m ≤ n → AreClear (lists_in vs) n
    → lists_in vs ≡ replicate m []
all_clear vs n m count past clear =
    let size : length (lists_in vs) ≡ m = length-map vs (λ u. u.items) ∙ count in
    let wanted : length (replicate m (let none : List Watcher = [] in none)) ≡ m = length-replicate m [] in
    ext_get_or [] (lists_in vs) (replicate m []) (omega arith)
    (λ k within. clear k (omega arith) ∙ sym (get_or-replicate m k [] [] (omega arith)))

pub one_more_list : {Z : Type 0} (vs ws : List (Vec Watcher Z)) (v : Vec Watcher Z) (n : ℕ) → lists_in vs ≡ replicate n []
    → ws ≡ vs ++ v ∷ [] → v.items ≡ [] → lists_in ws ≡ replicate (n + 1) []
one_more_list vs ws v n before is none =
    ap lists_in is ∙ map-append (λ u. u.items) vs (v ∷ []) ∙ ap (λ ls. ls ++ v.items ∷ []) before
    ∙ ap (λ xs. replicate n [] ++ xs ∷ []) none ∙ sym (replicate_next n [])

-- the default that fills an empty list is never used
pub taken_out : (xs : List Watcher) (i : ℕ) (x : Watcher) → i < length xs → swap_remove xs i x ≡ swap_remove xs i no_watch
taken_out xs i x lt =
    ap (λ y. take (length xs - 1) (set xs i y)) (get_or_default xs (length xs - 1) x no_watch (omega arith))

-- as many elements as before, written back
pub refilled : {X Z : Type 0} (v : Vec X Z) (ws : List X) → length ws ≡ length v.items → (with_items v ws).items ≡ ws
refilled v ws same =
    ap (λ (n : ℕ). take n (ws ++ drop (length ws) v.items)) (v.ok.0 ∙ sym same) ∙ take-append_seam ws (drop (length ws) v.items)

-- what holds anyway holds on an error
pub on_err : {T E P : Type 0} (r : Result T E) → P → OnErr r P
on_err (Ok x) p = tt
on_err (Err e) p = p
