-- Splitting off a view, taking one in, and changes that no group's word and no drop or fix sees, keep the rule.
use Rattle.std.proofs.Common.{◌≡◌, ◌≢◌, ℕ, zero, suc, ◌+◌, ◌<◌, ◌≤◌, Bool, true, false, cond, List, [], ◌∷◌, ◌++◌, length, take, refl, sym, ap, ◌∙◌, subst, ⊎_elim, arith, true≢false}
use Rattle.std.specs.Prelude.{nat_lt, nat_eq, not, ◌&&◌, slice_index, slice_set}
use Rattle.std.specs.List.{sum_by}
use Rattle.std.proofs.lemmas.Bool.{cases_eq, eq-eqb, ne_eqb, lt-ltb}
use Rattle.std.proofs.lemmas.List.{length-set, length_push, length-replicate, get_or-set_same, get_or-set_other, get_or_past}
use Rattle.std.proofs.lemmas.List.Sums.{sum_by_push, sum_by-cons}
use Rattle.board_core.specs.Subjects.{About, groups, flag}
use Rattle.board_core.specs.Words.{Earlier, Inside, met, met_words, times}
use Rattle.board_core.specs.Boards.{State, spent_view, view_at, parent, child, joined, without_number}
use Rattle.board_core.specs.Rules.{AreEarlier, AreWords, Fits, child_at, IsRooted, BoardRule}
use Rattle.board_core.specs.declared.view.View.{View}
use Rattle.board_core.proofs.Bits.{met_alive, met_fixed, times-append}
use Rattle.board_core.proofs.Lists.{at_set, at_push, sum_set}
use Rattle.board_core.proofs.Steps.{seated, earlier_refl, earlier_trans, child_set, rooted_set}

-- Splits.
never : (b : Bool) → flag (b && false) ≡ 0
never true = refl
never false = refl

pub no_child : (vs : List View) (j : ℕ) → length vs ≤ j → child_at vs j ≡ 0
no_child vs j past =
    ap (λ (v : View). flag (nat_lt 0 j && not v.spent)) (get_or_past vs j spent_view past) ∙ never (nat_lt 0 j)

-- a view fits where another does that has seen, loaded and counted the same
pub same_fits : (a : About) (ws : List ℕ) (id : ℕ) (v u : View) → Fits a ws id v → u.about ≡ v.about → u.number ≡ v.number
    → u.seen ≡ v.seen → u.loaded ≡ v.loaded → u.loads ≡ v.loads → length u.looks ≡ length v.looks → Fits a ws id u
same_fits a ws id v u fits about number seen loaded loads looks = record {
  about = about ∙ fits.about;
  number = number ∙ fits.number;
  seen = subst (λ (us : List ℕ). AreWords a us) (sym seen) fits.seen;
  loaded = subst (λ (us : List ℕ). AreWords a us) (sym loaded) fits.loaded;
  loads_length = ap length loads ∙ fits.loads_length;
  looks_length = looks ∙ fits.looks_length;
  loaded_seen = subst (λ (us : List ℕ). AreEarlier (groups a.formula.vars) us u.seen) (sym loaded)
      (subst (λ (us : List ℕ). AreEarlier (groups a.formula.vars) v.loaded us) (sym seen) fits.loaded_seen);
  seen_word = subst (λ (us : List ℕ). AreEarlier (groups a.formula.vars) us ws) (sym seen) fits.seen_word;
}

child_fits : (a : About) (ws : List ℕ) (id n : ℕ) (v : View) → Fits a ws id v → v.next ≡ n → Fits a ws n (child v)
child_fits a ws id n v fits next = record {
  about = fits.about;
  number = next;
  seen = fits.seen;
  loaded = fits.seen;
  loads_length = length-replicate (length v.seen) 0 ∙ fits.seen.size;
  looks_length = length-replicate (length v.looks) 0 ∙ fits.looks_length;
  loaded_seen = λ g _. earlier_refl (slice_index v.seen g);
  seen_word = fits.seen_word;
}

pub sum_split : (f : View → ℕ) (vs : List View) (u w : View) → 0 < length vs
    → sum_by f (slice_set vs 0 u ++ w ∷ []) + f (view_at vs 0) ≡ sum_by f vs + f u + f w
sum_split f vs u w some =
    omega (arith, sum_by_push f (slice_set vs 0 u) w, sum_set f vs 0 u spent_view some)

times_same : (j n : ℕ) → n ≡ j → times j (n ∷ []) ≡ 1
times_same j n same = rw (eq-eqb n j same) refl

times_other : (j n : ℕ) → n ≢ j → times j (n ∷ []) ≡ 0
times_other j n other = rw (ne_eqb n j other) refl

-- the root of a list that was split
split_first : (vs : List View) (P : View → Type 0) → 0 < length vs → P (parent (view_at vs 0))
    → P (view_at (slice_set vs 0 (parent (view_at vs 0)) ++ child (view_at vs 0) ∷ []) 0)
split_first [] P some here = absurd (omega arith)
split_first (v ∷ vs) P some here = here

split_child : (vs : List View) (j : ℕ) → 0 < length vs → IsRooted vs
    → times j (view_at vs 0).out + times j ((view_at vs 0).next ∷ [])
    ≡ child_at (slice_set vs 0 (parent (view_at vs 0)) ++ child (view_at vs 0) ∷ []) j
split_child vs j some rooted =
    let size : length (slice_set vs 0 (parent (view_at vs 0))) ≡ length vs = length-set vs 0 (parent (view_at vs 0)) in
    at_push (λ (v : View). times j (view_at vs 0).out + times j ((view_at vs 0).next ∷ []) ≡ flag (nat_lt 0 j && not v.spent))
    (slice_set vs 0 (parent (view_at vs 0))) (child (view_at vs 0)) spent_view j
    (λ here.
    let last : j ≡ length vs = here ∙ size in
    let new : flag (nat_lt 0 j && not (view_at vs 0).spent) ≡ 1 =
    ap (λ (b : Bool). flag (nat_lt 0 j && not b)) rooted.root ∙ positive j (omega arith) in
    omega (arith, rooted.out j, no_child vs j (omega arith), times_same j (view_at vs 0).next (rooted.next ∙ sym last), new))
    (λ other.
    let apart : (view_at vs 0).next ≢ j = λ (e : (view_at vs 0).next ≡ j). other (sym e ∙ rooted.next ∙ sym size) in
    omega (arith, rooted.out j, times_other j (view_at vs 0).next apart, child_set vs 0 (parent (view_at vs 0)) j some refl))
  where
    positive : (k : ℕ) → 0 < k → flag (nat_lt 0 k && true) ≡ 1
    positive k low = rw (lt-ltb 0 k low) refl

split_rooted : (vs : List View) → 0 < length vs → IsRooted vs → IsRooted (slice_set vs 0 (parent (view_at vs 0)) ++ child (view_at vs 0) ∷ [])
split_rooted vs some rooted = record {
  root = split_first vs (λ (v : View). v.spent ≡ false) some rooted.root;
  next = split_first vs (λ (v : View). v.next ≡ length vs + 1) some (ap (λ (n : ℕ). n + 1) rooted.next)
      ∙ sym (length_push (slice_set vs 0 (parent (view_at vs 0))) (child (view_at vs 0)) ∙ ap (λ (n : ℕ). n + 1) (length-set vs 0 (parent (view_at vs 0))));
  out = λ j. split_first vs (λ (v : View). times j v.out ≡ times j (view_at vs 0).out + times j ((view_at vs 0).next ∷ [])) some
      (times-append j (view_at vs 0).out ((view_at vs 0).next ∷ []))
      ∙ split_child vs j some rooted;
}

pub keeps_split : (a : About) (s : State) (os : List ℕ) → BoardRule a s
    → BoardRule a (record { words = s.words; origins = os; views = slice_set s.views 0 (parent (view_at s.views 0)) ++ child (view_at s.views 0) ∷ [] })
keeps_split a s os rule =
    let vs : List View = s.views in
    let r : View = view_at s.views 0 in
    let root = rule.rooted.root in
    let some : 0 < length s.views = seated s.views 0 root in
    let size : length (slice_set s.views 0 (parent (view_at s.views 0))) ≡ length s.views = length-set s.views 0 (parent (view_at s.views 0)) in
    let fits = rule.views 0 root in record {
      words = rule.words;
      truth = rule.truth;
      views = λ j. at_push (λ (v : View). v.spent ≡ false → Fits a s.words j v) (slice_set s.views 0 (parent (view_at s.views 0)))
          (child (view_at s.views 0)) spent_view j
          (λ here _. child_fits a s.words 0 j (view_at s.views 0) fits (rule.rooted.next ∙ sym (here ∙ size)))
          (λ _. at_set (λ (v : View). v.spent ≡ false → Fits a s.words j v) s.views 0 j (parent (view_at s.views 0)) spent_view some
          (λ here _. subst (λ (k : ℕ). Fits a s.words k (parent (view_at s.views 0))) (sym here)
          (same_fits a s.words 0 (view_at s.views 0) (parent (view_at s.views 0)) fits refl refl refl refl refl refl))
          (λ _. rule.views j));
      spent = λ j. at_push (λ (v : View). v.spent ≡ true → v ≡ spent_view) (slice_set s.views 0 (parent (view_at s.views 0)))
          (child (view_at s.views 0)) spent_view j
          (λ here is. absurd (true≢false (sym is ∙ root)))
          (λ _. at_set (λ (v : View). v.spent ≡ true → v ≡ spent_view) s.views 0 j (parent (view_at s.views 0)) spent_view some
          (λ here is. absurd (true≢false (sym is ∙ root)))
          (λ _. rule.spent j));
      dropped_once = λ x. omega (arith, sum_split (λ (v : View). times x v.drops) s.views (parent (view_at s.views 0)) (child (view_at s.views 0)) some, rule.dropped_once x);
      fixed_once = λ x. omega (arith, sum_split (λ (v : View). times x v.fixes) s.views (parent (view_at s.views 0)) (child (view_at s.views 0)) some, rule.fixed_once x);
      rooted = split_rooted s.views some rule.rooted;
    }

-- Joins.
met_words_size : (xs ys : List ℕ) → length xs ≡ length ys → length (met_words xs ys) ≡ length xs
met_words_size [] ys same = refl
met_words_size (x ∷ xs) [] same = absurd (omega arith)
met_words_size (x ∷ xs) (y ∷ ys) same = ap suc (met_words_size xs ys (omega arith))

met_words_at : (xs ys : List ℕ) (g : ℕ) → g < length xs → length xs ≡ length ys
    → slice_index (met_words xs ys) g ≡ met (slice_index xs g) (slice_index ys g)
met_words_at [] ys g low same = absurd (omega arith)
met_words_at (x ∷ xs) [] g low same = absurd (omega arith)
met_words_at (x ∷ xs) (y ∷ ys) zero low same = refl
met_words_at (x ∷ xs) (y ∷ ys) (suc g) low same = met_words_at xs ys g (omega arith) (omega arith)

met_words_next : (xs ys : List ℕ) (g : ℕ) → g < length xs → length xs ≡ length ys
    → met_words (take (suc g) xs) (take (suc g) ys) ≡ met_words (take g xs) (take g ys) ++ met (slice_index xs g) (slice_index ys g) ∷ []
met_words_next [] ys g low same = absurd (omega arith)
met_words_next (x ∷ xs) [] g low same = absurd (omega arith)
met_words_next (x ∷ xs) (y ∷ ys) zero low same = refl
met_words_next (x ∷ xs) (y ∷ ys) (suc g) low same = ap (λ (ws : List ℕ). met x y ∷ ws) (met_words_next xs ys g (omega arith) (omega arith))

pub met_words_more : (xs ys : List ℕ) (g : ℕ) → g < length xs → length xs ≡ length ys
    → met_words (take (g + 1) xs) (take (g + 1) ys) ≡ met_words (take g xs) (take g ys) ++ met (slice_index xs g) (slice_index ys g) ∷ []
met_words_more xs ys g low same =
    let more : g + 1 ≡ suc g = omega arith in
    ap (λ (n : ℕ). met_words (take n xs) (take n ys)) more ∙ met_words_next xs ys g low same

pub met_inside : (a : About) (xs ys : List ℕ) → AreWords a xs → AreWords a ys → AreWords a (met_words xs ys)
met_inside a xs ys left right =
    let lefts = left.size in
    let rights = right.size in record {
      size = met_words_size xs ys (omega arith) ∙ left.size;
      inside = λ g low. subst (λ (w : ℕ). Inside a.formula g w) (sym (met_words_at xs ys g (omega arith) (omega arith)))
          (λ i within.
          let p = left.inside g low i within in
          let q = right.inside g low i within in (
            omega (arith, p.0, met_alive (slice_index xs g) (slice_index ys g) i within),
            omega (arith, p.1, q.1, met_fixed (slice_index xs g) (slice_index ys g) i within),
          ));
    }

pub met_later : (a : About) (ls xs ys : List ℕ) → AreWords a xs → AreWords a ys → AreEarlier (groups a.formula.vars) ls xs
    → AreEarlier (groups a.formula.vars) ls (met_words xs ys)
met_later a ls xs ys left right later =
    let lefts = left.size in
    let rights = right.size in
    λ g low. subst (λ (w : ℕ). Earlier (slice_index ls g) w) (sym (met_words_at xs ys g (omega arith) (omega arith)))
    (earlier_trans (slice_index ls g) (slice_index xs g) (met (slice_index xs g) (slice_index ys g)) (later g low)
    (λ i within. (
      omega (arith, met_alive (slice_index xs g) (slice_index ys g) i within),
      omega (arith, met_fixed (slice_index xs g) (slice_index ys g) i within),
    )))

joined_fits : (a : About) (ws : List ℕ) (id k : ℕ) (v u : View) → Fits a ws id v → Fits a ws k u → Fits a ws id (joined v u)
joined_fits a ws id k v u fits other =
    let sizes = fits.seen.size in
    let others = other.seen.size in record {
      about = fits.about;
      number = fits.number;
      seen = met_inside a v.seen u.seen fits.seen other.seen;
      loaded = fits.loaded;
      loads_length = fits.loads_length;
      looks_length = fits.looks_length;
      loaded_seen = met_later a v.loaded v.seen u.seen fits.seen other.seen fits.loaded_seen;
      seen_word = λ g low. subst (λ (w : ℕ). Earlier w (slice_index ws g)) (sym (met_words_at v.seen u.seen g (omega arith) (omega arith)))
          (λ i within.
          let p = fits.seen_word g low i within in
          let q = other.seen_word g low i within in (
            omega (arith, p.0, q.0, met_alive (slice_index v.seen g) (slice_index u.seen g) i within),
            omega (arith, p.1, q.1, met_fixed (slice_index v.seen g) (slice_index u.seen g) i within),
          ));
    }

-- the numbers that are left
abbrev mark : Bool → ℕ
mark b = cond b 1 0

times_cons_other : (n k : ℕ) (xs : List ℕ) → k ≢ n → times n (k ∷ xs) ≡ times n xs
times_cons_other n k xs other =
    let e : mark (nat_eq k n) ≡ 0 = ap mark (ne_eqb k n other) in
    omega (arith, sum_by-cons (λ (y : ℕ). mark (nat_eq y n)) k xs, e)

pub times_gone : (n : ℕ) (out : List ℕ) → times n (without_number n out) ≡ 0
times_gone n [] = refl
times_gone n (k ∷ out) =
    ⊎_elim
    (λ (same : k ≡ n). subst (λ (b : Bool). times n (cond (not b) (k ∷ without_number n out) (without_number n out)) ≡ 0)
    (sym (eq-eqb k n same)) (times_gone n out))
    (λ (other : k ≢ n). subst (λ (b : Bool). times n (cond (not b) (k ∷ without_number n out) (without_number n out)) ≡ 0)
    (sym (ne_eqb k n other)) (times_cons_other n k (without_number n out) other ∙ times_gone n out))
    (cases_eq k n)

pub times_kept : (n j : ℕ) (out : List ℕ) → j ≢ n → times j (without_number n out) ≡ times j out
times_kept n j [] apart = refl
times_kept n j (k ∷ out) apart =
    ⊎_elim
    (λ (same : k ≡ n). subst (λ (b : Bool). times j (cond (not b) (k ∷ without_number n out) (without_number n out)) ≡ times j (k ∷ out))
    (sym (eq-eqb k n same))
    (times_kept n j out apart ∙ sym (times_cons_other j k out (λ (e : k ≡ j). apart (sym e ∙ same)))))
    (λ (other : k ≢ n). subst (λ (b : Bool). times j (cond (not b) (k ∷ without_number n out) (without_number n out)) ≡ times j (k ∷ out))
    (sym (ne_eqb k n other))
    (omega (arith, sum_by-cons (λ (y : ℕ). mark (nat_eq y j)) k (without_number n out), sum_by-cons (λ (y : ℕ). mark (nat_eq y j)) k out, times_kept n j out apart)))
    (cases_eq k n)

-- a sum after the root took in the view at place id
pub sum_join : (f : View → ℕ) (vs : List View) (id : ℕ) (u : View) → id < length vs → 0 < id → f spent_view ≡ 0
    → sum_by f (slice_set (slice_set vs 0 u) id spent_view) + f (view_at vs id) + f (view_at vs 0) ≡ sum_by f vs + f u
sum_join f vs id u within apart none =
    let size : length (slice_set vs 0 u) ≡ length vs = length-set vs 0 u in
    let same : f (view_at (slice_set vs 0 u) id) ≡ f (view_at vs id) =
    ap f (get_or-set_other vs 0 id u spent_view (λ (e : id ≡ 0). omega arith)) in
    omega (arith, sum_set f vs 0 u spent_view (omega arith), sum_set f (slice_set vs 0 u) id spent_view spent_view (omega arith), same, none)

-- what holds of each view after a join
pub each_joined : (P : ℕ → View → Type 0) (vs : List View) (id : ℕ) (u : View) → id < length vs → 0 < id
    → P id spent_view → P 0 u → ((j : ℕ) → j ≢ id → P j (view_at vs j)) → (j : ℕ)
    → P j (view_at (slice_set (slice_set vs 0 u) id spent_view) j)
each_joined P vs id u within apart gone root rest j =
    let size : length (slice_set vs 0 u) ≡ length vs = length-set vs 0 u in
    at_set (λ (v : View). P j v) (slice_set vs 0 u) id j spent_view spent_view (omega arith)
    (λ here. subst (λ (k : ℕ). P k spent_view) (sym here) gone)
    (λ other. at_set (λ (v : View). P j v) vs 0 j u spent_view (omega arith)
    (λ here. subst (λ (k : ℕ). P k u) (sym here) root)
    (λ _. rest j other))

joined_rooted : (vs : List View) (id : ℕ) → id < length vs → 0 < id → (view_at vs id).number ≡ id → IsRooted vs
    → IsRooted (slice_set (slice_set vs 0 (joined (view_at vs 0) (view_at vs id))) id spent_view)
joined_rooted vs id within apart number rooted =
    let u : View = joined (view_at vs 0) (view_at vs id) in
    let first : view_at (slice_set (slice_set vs 0 (joined (view_at vs 0) (view_at vs id))) id spent_view) 0 ≡ joined (view_at vs 0) (view_at vs id) =
    get_or-set_other (slice_set vs 0 (joined (view_at vs 0) (view_at vs id))) id 0 spent_view spent_view (λ (e : 0 ≡ id). omega arith)
    ∙ get_or-set_same vs 0 (joined (view_at vs 0) (view_at vs id)) spent_view (omega arith) in
    record {
      root = ap (λ (v : View). v.spent) first ∙ rooted.root;
      next = ap (λ (v : View). v.next) first ∙ rooted.next
          ∙ sym (length-set (slice_set vs 0 (joined (view_at vs 0) (view_at vs id))) id spent_view ∙ length-set vs 0 (joined (view_at vs 0) (view_at vs id)));
      out = λ j. ap (λ (v : View). times j v.out) first
          ∙ each_joined (λ k v. times k (without_number (view_at vs id).number (view_at vs 0).out) ≡ flag (nat_lt 0 k && not v.spent)) vs id
          (joined (view_at vs 0) (view_at vs id)) within apart
          (subst (λ (n : ℕ). times n (without_number (view_at vs id).number (view_at vs 0).out) ≡ flag (nat_lt 0 n && false)) number
          (times_gone (view_at vs id).number (view_at vs 0).out ∙ sym (never (nat_lt 0 (view_at vs id).number))))
          (times_kept (view_at vs id).number 0 (view_at vs 0).out (λ (e : 0 ≡ (view_at vs id).number). omega arith) ∙ rooted.out 0)
          (λ k other. times_kept (view_at vs id).number k (view_at vs 0).out (λ (e : k ≡ (view_at vs id).number). other (e ∙ number)) ∙ rooted.out k)
          j;
    }

-- a view that is out has a place behind the root
pub out_place : (a : About) (s : State) (id : ℕ) → BoardRule a s → (view_at s.views id).spent ≡ false
    → 1 ≤ times (view_at s.views id).number (view_at s.views 0).out → 0 < id
out_place a s zero rule unspent out =
    let none : times (view_at s.views 0).number (view_at s.views 0).out ≡ child_at s.views 0 =
    ap (λ (n : ℕ). times n (view_at s.views 0).out) (rule.views 0 unspent).number ∙ rule.rooted.out 0 in
    absurd (omega arith)
out_place a s (suc id) rule unspent out = omega arith

pub keeps_join : (a : About) (s : State) (os : List ℕ) (id : ℕ) → BoardRule a s → (view_at s.views id).spent ≡ false → 0 < id
    → BoardRule a (record {
      words = s.words;
      origins = os;
      views = slice_set (slice_set s.views 0 (joined (view_at s.views 0) (view_at s.views id))) id spent_view;
    })
keeps_join a s os id rule unspent apart =
    let within : id < length s.views = seated s.views id unspent in
    let root = rule.rooted.root in
    let u : View = joined (view_at s.views 0) (view_at s.views id) in record {
      words = rule.words;
      truth = rule.truth;
      views = each_joined (λ j v. v.spent ≡ false → Fits a s.words j v) s.views id (joined (view_at s.views 0) (view_at s.views id)) within apart
          (λ is. absurd (true≢false is))
          (λ _. joined_fits a s.words 0 id (view_at s.views 0) (view_at s.views id) (rule.views 0 root) (rule.views id unspent))
          (λ j _. rule.views j);
      spent = each_joined (λ j v. v.spent ≡ true → v ≡ spent_view) s.views id (joined (view_at s.views 0) (view_at s.views id)) within apart
          (λ _. refl)
          (λ is. absurd (true≢false (sym is ∙ root)))
          (λ j _. rule.spent j);
      dropped_once = λ x. omega (
        arith,
        rule.dropped_once x,
        times-append x (view_at s.views 0).drops (view_at s.views id).drops,
        sum_join (λ (v : View). times x v.drops) s.views id (joined (view_at s.views 0) (view_at s.views id)) within apart refl,
      );
      fixed_once = λ x. omega (
        arith,
        rule.fixed_once x,
        times-append x (view_at s.views 0).fixes (view_at s.views id).fixes,
        sum_join (λ (v : View). times x v.fixes) s.views id (joined (view_at s.views 0) (view_at s.views id)) within apart refl,
      );
      rooted = joined_rooted s.views id within apart (rule.views id unspent).number rule.rooted;
    }

-- Changes of what a view published, imported or looked for.
pub keeps_quiet : (a : About) (s : State) (os : List ℕ) (id : ℕ) (u : View) → BoardRule a s → (view_at s.views id).spent ≡ false
    → u.spent ≡ false → u.drops ≡ (view_at s.views id).drops → u.fixes ≡ (view_at s.views id).fixes → u.next ≡ (view_at s.views id).next
    → u.out ≡ (view_at s.views id).out → Fits a s.words id u
    → BoardRule a (record { words = s.words; origins = os; views = slice_set s.views id u })
keeps_quiet a s os id u rule was unspent drops fixes next out fits =
    let within : id < length s.views = seated s.views id was in record {
      words = rule.words;
      truth = rule.truth;
      views = λ j. at_set (λ (v : View). v.spent ≡ false → Fits a s.words j v) s.views id j u spent_view within
          (λ here _. subst (λ (k : ℕ). Fits a s.words k u) (sym here) fits)
          (λ _. rule.views j);
      spent = λ j. at_set (λ (v : View). v.spent ≡ true → v ≡ spent_view) s.views id j u spent_view within
          (λ here is. absurd (true≢false (sym is ∙ unspent)))
          (λ _. rule.spent j);
      dropped_once = λ x. omega (arith, rule.dropped_once x, ap (times x) drops, sum_set (λ (v : View). times x v.drops) s.views id u spent_view within);
      fixed_once = λ x. omega (arith, rule.fixed_once x, ap (times x) fixes, sum_set (λ (v : View). times x v.fixes) s.views id u spent_view within);
      rooted = rooted_set s.views id u within was unspent next out rule.rooted;
    }
