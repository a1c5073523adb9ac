-- What a change of the fields does to the entries.
use Rattle.std.proofs.Common.{◌≡◌, ◌≢◌, ℕ, zero, suc, ◌+◌, ◌-◌, ◌<◌, ◌≤◌, ◌^◌, true, false, List, [], ◌∷◌, ◌++◌, length, get_or, set, drop}
use Rattle.std.proofs.Common.{refl, sym, ap, ◌∙◌, ⊎_elim, zero-lt-suc, arith, length-append}
use Rattle.std.specs.List.{between, swap}
use Rattle.std.proofs.lemmas.List.{length-set, get_or-set_same, get_or-set_other, get_or_append_left, get_or_push, length_push, ext_get_or}
use Rattle.std.proofs.lemmas.List.{take-append-le, take_all, drop_at, get_or_read}
use Rattle.std.proofs.lemmas.List.Edits.{length-between, get_or-between, swapped_from_swap, length-swap}
use Rattle.std.proofs.lemmas.Slice.{between_is}
use Rattle.std.proofs.lemmas.List.FromFn.{length-map-range_with_len}
use Rattle.std.proofs.lemmas.Bool.{cases_eq, cases_lt}
use Rattle.cnf_core.specs.Literals.{Literals}
use Rattle.clause_arena.specs.Entries.{Entry, Entries, no_entry, no_literal, entry_at, len_of, new_entry, with_entry, without_clause}
use Rattle.clause_arena.specs.Entries.{with_swap}
use Rattle.clause_arena.specs.Steps.Layout.{no_mark, mark_at, laid_entry, laid_entries, IsLaidOut}
use Rattle.clause_arena.specs.Steps.Opened.{opened}
use Rattle.clause_arena.specs.declared.arena.Mark.{Mark}
use Rattle.clause_arena.proofs.Laid.{IsKept, length_is, laid_at, entry_is, bounds_of}

-- entries with the same fields
pub same_entries : (e f : Entry) → e.id ≡ f.id → e.lits ≡ f.lits → e.learnt ≡ f.learnt → e.live ≡ f.live → e ≡ f
same_entries e f id lits learnt live =
    let first : e ≡ record e { id = f.id } = ap (λ x. record e { id = x }) id in
    let second : record e { id = f.id } ≡ record e { id = f.id; lits = f.lits } =
    ap (λ x. record e { id = f.id; lits = x }) lits in
    let third : record e { id = f.id; lits = f.lits } ≡ record f { live = e.live } =
    ap (λ x. record f { learnt = x; live = e.live }) learnt in
    let fourth : record f { live = e.live } ≡ f = ap (λ x. record f { live = x }) live in
    first ∙ second ∙ third ∙ fourth

length-laid : (l : Literals) (s : List ℕ) (m : List Mark) → length (laid_entries l s m) ≡ length m
length-laid l s m = length-map-range_with_len (laid_entry l s m) 0 (length m)

-- ---- one clause more

length-opened : (s : List ℕ) (n : ℕ) → length s ≤ n + 1 → (0 < n → length s ≡ n + 1) → length (opened s) ≡ n + 1
length-opened [] zero most least = refl
length-opened [] (suc n) most least = absurd (omega (arith, least (zero-lt-suc n)))
length-opened (x ∷ s) zero most least = omega (arith, most)
length-opened (x ∷ s) (suc n) most least = least (zero-lt-suc n)

get_or-opened : (s : List ℕ) (i : ℕ) → get_or (opened s) i 0 ≡ get_or s i 0
get_or-opened [] zero = refl
get_or-opened [] (suc i) = refl
get_or-opened (x ∷ s) i = refl

-- the starts with one more at their end
abbrev more_starts : List ℕ → ℕ → List ℕ
more_starts s e = opened s ++ e ∷ []

start_before : (l : Literals) (s : List ℕ) (m : List Mark) (e i : ℕ) → IsLaidOut l s m → i ≤ length m
    → get_or (more_starts s e) i 0 ≡ get_or s i 0
start_before l s m e i laid within =
    let count : length (opened s) ≡ length m + 1 = length-opened s (length m) laid.at_most laid.at_least in
    get_or_append_left (opened s) (e ∷ []) 0 i (omega arith) ∙ get_or-opened s i

start_after : (l : Literals) (s : List ℕ) (m : List Mark) (e i : ℕ) → IsLaidOut l s m → i ≡ length m + 1
    → get_or (more_starts s e) i 0 ≡ e
start_after l s m e i laid at =
    get_or_push (opened s) e 0 i (length-opened s (length m) laid.at_most laid.at_least ∙ sym at)

pub laid_more : (l c : Literals) (s : List ℕ) (m : List Mark) (e : ℕ) (x : Mark) → IsLaidOut l s m
    → e ≡ length l + length c → e < 2 ^ 32 → length m + 1 < 2 ^ 32
    → IsLaidOut (l ++ c) (more_starts s e) (m ++ x ∷ [])
laid_more l c s m e x laid end fits few =
    let count : length (opened s) ≡ length m + 1 = length-opened s (length m) laid.at_most laid.at_least in
    let marks : length (m ++ x ∷ []) ≡ length m + 1 = length_push m x in
    let starts : length (more_starts s e) ≡ length m + 1 + 1 = length_push (opened s) e ∙ ap (λ n. n + 1) count in
    let literals : length (l ++ c) ≡ e = length-append l c ∙ sym end in
    let top : (i : ℕ) → i ≤ length m → get_or s i 0 ≤ e =
    λ i within. omega (arith, laid.rising i (length m) within (omega arith), laid.last) in
    record {
      at_most = omega arith;
      at_least = λ _. omega arith;
      first = start_before l s m e 0 laid (omega arith) ∙ laid.first;
      last = start_after l s m e (length (m ++ x ∷ [])) laid marks ∙ sym literals;
      rising = λ i j ordered within. ⊎_elim
          (λ (old : j < length m + 1).
          let a = start_before l s m e i laid (omega arith) in
          let b = start_before l s m e j laid (omega arith) in
          omega (arith, a, b, laid.rising i j ordered (omega arith)))
          (λ (new : length m + 1 ≤ j).
          let b = start_after l s m e j laid (omega arith) in
          ⊎_elim
          (λ (before : i < length m + 1).
          let a = start_before l s m e i laid (omega arith) in
          omega (arith, a, b, top i (omega arith)))
          (λ (at : length m + 1 ≤ i).
          let a = start_after l s m e i laid (omega arith) in
          omega (arith, a, b))
          (cases_lt i (length m + 1)))
          (cases_lt j (length m + 1));
      literals_limit = omega arith;
      clauses_limit = omega arith;
    }

between-append : (l c : Literals) (i j : ℕ) → j ≤ length l → between i j (l ++ c) ≡ between i j l
between-append l c i j within =
    between_is (l ++ c) i j ∙ ap (drop i) (take-append-le j l c within) ∙ sym (between_is l i j)

between-appended : (l c : Literals) (i j : ℕ) → i ≡ length l → j ≡ length l + length c → between i j (l ++ c) ≡ c
between-appended l c i j from to =
    let whole : length (l ++ c) ≤ j = omega (arith, length-append l c) in
    between_is (l ++ c) i j ∙ ap (drop i) (take_all j (l ++ c) whole) ∙ drop_at l c i (sym from)

pub entries_more : (l c : Literals) (s : List ℕ) (m : List Mark) (a : Entries) (e : ℕ) (x : Mark) → IsKept l s m a
    → e ≡ length l + length c → x.live ≡ true
    → laid_entries (l ++ c) (more_starts s e) (m ++ x ∷ []) ≡ with_entry a (new_entry x.id c x.learnt)
entries_more l c s m a e x k end live =
    let l' = l ++ c in
    let s' = more_starts s e in
    let m' = m ++ x ∷ [] in
    let new : Entry = new_entry x.id c x.learnt in
    let marks : length m' ≡ length m + 1 = length_push m x in
    let count : length m ≡ length a = length_is l s m a k in
    let laid = length-laid l' s' m' in
    let pushed : length (with_entry a new) ≡ length a + 1 = length_push a new in
    ext_get_or no_entry (laid_entries l' s' m') (with_entry a new) (omega arith)
    (λ i within.
    let here : i < length m + 1 = omega arith in
    laid_at l' s' m' i (omega arith) ∙ ⊎_elim
    (λ (old : i < length m).
    let b = bounds_of l s m a i k (omega arith) in
    let from : get_or s' i 0 ≡ get_or s i 0 = start_before l s m e i k.laid (omega arith) in
    let to : get_or s' (i + 1) 0 ≡ get_or s (i + 1) 0 = start_before l s m e (i + 1) k.laid (omega arith) in
    let mark : mark_at m' i ≡ mark_at m i = get_or_append_left m (x ∷ []) no_mark i old in
    let lits : between (get_or s' i 0) (get_or s' (i + 1) 0) l' ≡ between (get_or s i 0) (get_or s (i + 1) 0) l =
    rw (from, to) (between-append l c (get_or s i 0) (get_or s (i + 1) 0) b.within) in
    let same : laid_entry l' s' m' i ≡ laid_entry l s m i =
    same_entries (laid_entry l' s' m' i) (laid_entry l s m i) (ap (λ y. y.id) mark) lits (ap (λ y. y.learnt) mark)
    (ap (λ y. y.live) mark) in
    same ∙ sym (entry_is l s m a i k (omega arith)) ∙ sym (get_or_append_left a (new ∷ []) no_entry i (omega arith)))
    (λ (last : length m ≤ i).
    let at : i ≡ length m = omega arith in
    let from : get_or s' i 0 ≡ length l = start_before l s m e i k.laid (omega arith) ∙ ap (λ n. get_or s n 0) at ∙ k.laid.last in
    let to : get_or s' (i + 1) 0 ≡ length l + length c = start_after l s m e (i + 1) k.laid (omega arith) ∙ end in
    let mark : mark_at m' i ≡ x = get_or_push m x no_mark i (sym at) in
    let lits : between (get_or s' i 0) (get_or s' (i + 1) 0) l' ≡ c =
    between-appended l c (get_or s' i 0) (get_or s' (i + 1) 0) from to in
    same_entries (laid_entry l' s' m' i) new (ap (λ y. y.id) mark) lits (ap (λ y. y.learnt) mark) (ap (λ y. y.live) mark ∙ live)
    ∙ sym (get_or_push a new no_entry i (omega arith)))
    (cases_lt i (length m)))

-- ---- a clause removed

pub entries_without : (l : Literals) (s : List ℕ) (m : List Mark) (a : Entries) (r : ℕ) (x : Mark) → IsKept l s m a
    → r < length a → x ≡ get_or m r x
    → laid_entries l s (set m r (record x { live = false })) ≡ without_clause a r
entries_without l s m a r x k here read =
    let y : Mark = record x { live = false } in
    let m' = set m r y in
    let gone : Entry = record (entry_at a r) { live = false } in
    let count : length m ≡ length a = length_is l s m a k in
    let marks : length m' ≡ length m = length-set m r y in
    let entries : length (set a r gone) ≡ length a = length-set a r gone in
    let laid = length-laid l s m' in
    ext_get_or no_entry (laid_entries l s m') (set a r gone) (omega arith)
    (λ i within.
    laid_at l s m' i (omega arith) ∙ ⊎_elim
    (λ (at : i ≡ r).
    let mark : mark_at m' i ≡ y = ap (λ n. mark_at m' n) at ∙ get_or-set_same m r y no_mark (omega arith) in
    let was : x ≡ mark_at m r = get_or_read m r x (omega arith) read no_mark in
    let old : entry_at a r ≡ laid_entry l s m r = entry_is l s m a r k here in
    let same : laid_entry l s m' i ≡ gone =
    same_entries (laid_entry l s m' i) gone
    (ap (λ z. z.id) mark ∙ ap (λ z. z.id) was ∙ sym (ap (λ e. e.id) old))
    (ap (λ n. between (get_or s n 0) (get_or s (n + 1) 0) l) at ∙ sym (ap (λ e. e.lits) old))
    (ap (λ z. z.learnt) mark ∙ ap (λ z. z.learnt) was ∙ sym (ap (λ e. e.learnt) old))
    (ap (λ z. z.live) mark) in
    same ∙ sym (get_or-set_same a r gone no_entry here) ∙ ap (λ n. get_or (set a r gone) n no_entry) (sym at))
    (λ (other : i ≢ r).
    let mark : mark_at m' i ≡ mark_at m i = get_or-set_other m r i y no_mark other in
    let same : laid_entry l s m' i ≡ laid_entry l s m i =
    same_entries (laid_entry l s m' i) (laid_entry l s m i) (ap (λ z. z.id) mark) refl (ap (λ z. z.learnt) mark) (ap (λ z. z.live) mark) in
    same ∙ sym (entry_is l s m a i k (omega arith)) ∙ sym (get_or-set_other a r i gone no_entry other))
    (cases_eq i r))

-- ---- two literals exchanged

-- lists of which one is the other with two elements exchanged, read in a part
swap_between : (l : Literals) (s t i j : ℕ) → s ≤ t → t ≤ length l → i < t - s → j < t - s
    → between s t (swap l (s + i) (s + j)) ≡ swap (between s t l) i j
swap_between l s t i j rises within first second =
    let l' = swap l (s + i) (s + j) in
    let c = between s t l in
    let c' = swap c i j in
    let d = no_literal in
    let count : length c ≡ t - s = length-between l s t within in
    let whole : length l' ≡ length l = length-swap l (s + i) (s + j) in
    let part : length (between s t l') ≡ t - s = length-between l' s t (omega arith) in
    let swapped : length c' ≡ length c = length-swap c i j in
    let a = swapped_from_swap l l' (s + i) (s + j) d (omega arith) (omega arith) refl in
    let b = swapped_from_swap c c' i j d (omega arith) (omega arith) refl in
    let old : (k : ℕ) → k < t - s → get_or c k d ≡ get_or l (s + k) d =
    λ k lt. get_or-between l s t k d (omega arith) in
    ext_get_or d (between s t l') c' (omega arith)
    (λ k lt.
    get_or-between l' s t k d (omega arith) ∙ ⊎_elim
    (λ (at : k ≡ i).
    ap (λ n. get_or l' (s + n) d) at ∙ a.0 ∙ sym (old j second) ∙ sym b.0 ∙ ap (λ n. get_or c' n d) (sym at))
    (λ (not_first : k ≢ i). ⊎_elim
    (λ (at : k ≡ j).
    ap (λ n. get_or l' (s + n) d) at ∙ a.1 ∙ sym (old i first) ∙ sym b.1 ∙ ap (λ n. get_or c' n d) (sym at))
    (λ (not_second : k ≢ j).
    a.2 (s + k) (λ e. not_first (omega arith)) (λ e. not_second (omega arith))
    ∙ sym (old k (omega arith)) ∙ sym (b.2 k not_first not_second))
    (cases_eq k j))
    (cases_eq k i))

-- a part that has neither of the two
swap_elsewhere : (l : Literals) (s t p q : ℕ) → s ≤ t → t ≤ length l → p < length l → q < length l
    → ((k : ℕ) → s ≤ k → k < t → (k ≢ p) × (k ≢ q)) → between s t (swap l p q) ≡ between s t l
swap_elsewhere l s t p q rises within first second apart =
    let l' = swap l p q in
    let d = no_literal in
    let whole : length l' ≡ length l = length-swap l p q in
    let part : length (between s t l') ≡ t - s = length-between l' s t (omega arith) in
    let old : length (between s t l) ≡ t - s = length-between l s t within in
    let a = swapped_from_swap l l' p q d first second refl in
    ext_get_or d (between s t l') (between s t l) (omega arith)
    (λ k lt.
    let away = apart (s + k) (omega arith) (omega arith) in
    get_or-between l' s t k d (omega arith) ∙ a.2 (s + k) away.0 away.1 ∙ sym (get_or-between l s t k d (omega arith)))

pub entries_swapped : (l : Literals) (s : List ℕ) (m : List Mark) (a : Entries) (r i j : ℕ) → IsKept l s m a
    → r < length a → i < len_of a r → j < len_of a r
    → laid_entries (swap l (get_or s r 0 + i) (get_or s r 0 + j)) s m ≡ with_swap a r i j
entries_swapped l s m a r i j k here first second =
    let p = get_or s r 0 + i in
    let q = get_or s r 0 + j in
    let l' = swap l p q in
    let new : Entry = record (entry_at a r) { lits = swap (entry_at a r).lits i j } in
    let count : length m ≡ length a = length_is l s m a k in
    let entries : length (set a r new) ≡ length a = length-set a r new in
    let laid = length-laid l' s m in
    let b = bounds_of l s m a r k here in
    let size : len_of a r ≡ get_or s (r + 1) 0 - get_or s r 0 = b.count in
    let fits : get_or s (r + 1) 0 ≤ length l = b.within in
    let old : entry_at a r ≡ laid_entry l s m r = entry_is l s m a r k here in
    ext_get_or no_entry (laid_entries l' s m) (set a r new) (omega arith)
    (λ n within.
    laid_at l' s m n (omega arith) ∙ ⊎_elim
    (λ (at : n ≡ r).
    let lits : between (get_or s r 0) (get_or s (r + 1) 0) l' ≡ swap (entry_at a r).lits i j =
    swap_between l (get_or s r 0) (get_or s (r + 1) 0) i j b.rises b.within (omega arith) (omega arith)
    ∙ ap (λ c. swap c i j) (sym b.lits) in
    let same : laid_entry l' s m r ≡ new =
    same_entries (laid_entry l' s m r) new (sym (ap (λ e. e.id) old)) lits (sym (ap (λ e. e.learnt) old)) (sym (ap (λ e. e.live) old)) in
    ap (λ z. laid_entry l' s m z) at ∙ same ∙ sym (get_or-set_same a r new no_entry here)
    ∙ ap (λ z. get_or (set a r new) z no_entry) (sym at))
    (λ (other : n ≢ r).
    let bn = bounds_of l s m a n k (omega arith) in
    let apart : (z : ℕ) → get_or s n 0 ≤ z → z < get_or s (n + 1) 0 → (z ≢ p) × (z ≢ q) =
    λ z low high. ⊎_elim
    (λ (before : n < r).
    let order = k.laid.rising (n + 1) r (omega arith) (omega arith) in
    (λ e. omega (arith, order), λ e. omega (arith, order)))
    (λ (after : r ≤ n).
    let order = k.laid.rising (r + 1) n (omega arith) (omega arith) in
    (λ e. omega (arith, order), λ e. omega (arith, order)))
    (cases_lt n r) in
    let lits : between (get_or s n 0) (get_or s (n + 1) 0) l' ≡ between (get_or s n 0) (get_or s (n + 1) 0) l =
    swap_elsewhere l (get_or s n 0) (get_or s (n + 1) 0) p q bn.rises bn.within (omega arith) (omega arith) apart in
    let same : laid_entry l' s m n ≡ laid_entry l s m n =
    same_entries (laid_entry l' s m n) (laid_entry l s m n) refl lits refl refl in
    same ∙ sym (entry_is l s m a n k (omega arith)) ∙ sym (get_or-set_other a r n new no_entry other))
    (cases_eq n r))

pub laid_swapped : (l : Literals) (s : List ℕ) (m : List Mark) (p q : ℕ) → IsLaidOut l s m
    → IsLaidOut (swap l p q) s m
laid_swapped l s m p q laid =
    let same : length (swap l p q) ≡ length l = length-swap l p q in
    record {
      at_most = laid.at_most;
      at_least = laid.at_least;
      first = laid.first;
      last = laid.last ∙ sym same;
      rising = laid.rising;
      literals_limit = omega (arith, laid.literals_limit);
      clauses_limit = laid.clauses_limit;
    }

-- ---- the same, from what the calls say of the fields

pub record Added (l' : Literals) (s' : List ℕ) (m' : List Mark) (a : Entries) (e : Entry) : Type 0 where
  pub laid : IsLaidOut l' s' m'
  pub entries : laid_entries l' s' m' ≡ with_entry a e

pub added : (l c : Literals) (s : List ℕ) (m : List Mark) (a : Entries) (e : ℕ) (x : Mark) (l' : Literals) (s' : List ℕ)
    (m' : List Mark) → IsKept l s m a → l' ≡ l ++ c → s' ≡ opened s ++ e ∷ [] → m' ≡ m ++ x ∷ []
    → e ≡ length l + length c → e < 2 ^ 32 → length m + 1 < 2 ^ 32 → x.live ≡ true
    → Added l' s' m' a (new_entry x.id c x.learnt)
added l c s m a e x l' s' m' k lits starts marks end fits few live =
    rw (lits, starts, marks)
    (record { laid = laid_more l c s m e x k.laid end fits few; entries = entries_more l c s m a e x k end live })
