-- How many queries of a log have learnt something, as the log grows.
use Rattle.std.proofs.Common.{◌≡◌, ℕ, zero, suc, ◌+◌, ◌≤◌, Bool, true, false, true≢false, eqb, List, [], ◌∷◌, ◌++◌, length, map, filter, refl, sym, ap, ◌∙◌, subst, inl, inr, arith}
use Rattle.std.specs.Prelude.{All, ◌||◌}
use Rattle.std.specs.List.{list_any}
use Rattle.std.specs.Set.{unique_keys, distinct_count, is_member}
use Rattle.std.proofs.lemmas.Bool.{cases_Bool, cond-true, cond-false, eq-eqb}
use Rattle.std.proofs.lemmas.List.{append-nil, length-append, length-map, map-append}
use Rattle.std.proofs.lemmas.List.Elements.{filter-append, All-map, All-filter, All-head, All-tail}
use Rattle.std.proofs.lemmas.List.Folds.{list_any-append}
use Rattle.std.proofs.lemmas.List.Sums.{length-filter}
use Rattle.lrat_log.specs.Entries.{Entry, Recorded, is_learnt_entry, learnt_count}
use Rattle.lrat_log.specs.Laws.{learning_queries}
use Rattle.assumption_solver.specs.Logs.{IsQueried}
use Rattle.worker_loop.specs.Steps.Moves.{IsAskedTimes, queries_of}

-- how many different numbers
abbrev different : List ℕ → ℕ
different ks = distinct_count eqb ks

again : (k : ℕ) (ks : List ℕ) → is_member eqb ks k ≡ true → different (k ∷ ks) ≡ different ks
again k ks is = ap length (cond-true (is_member eqb ks k) (unique_keys eqb ks) (k ∷ unique_keys eqb ks) is)

fresh : (k : ℕ) (ks : List ℕ) → is_member eqb ks k ≡ false → different (k ∷ ks) ≡ different ks + 1
fresh k ks is =
    let e : different (k ∷ ks) ≡ length (k ∷ unique_keys eqb ks) =
    ap length (cond-false (is_member eqb ks k) (unique_keys eqb ks) (k ∷ unique_keys eqb ks) is) in
    omega (arith, e)

no_fewer : (k : ℕ) (ks : List ℕ) → different ks ≤ different (k ∷ ks)
no_fewer k ks =
    elim (cases_Bool (is_member eqb ks k)) [
      | inl is ↦ omega (arith, again k ks is)
      | inr is ↦ omega (arith, fresh k ks is)
    ]

-- numbers that are all the same are one
all_one : (q : ℕ) (ks : List ℕ) → All (λ k. k ≡ q) ks → different ks ≤ 1
all_one q [] same = omega arith
all_one q (k ∷ []) same = omega (arith, fresh k [] refl)
all_one q (k ∷ j ∷ ks) same =
    let rest : All (λ i. i ≡ q) (j ∷ ks) = All-tail (λ (i : ℕ). i ≡ q) k (j ∷ ks) same in
    let first : k ≡ q = All-head (λ (i : ℕ). i ≡ q) k (j ∷ ks) same in
    let second : j ≡ q = All-head (λ (i : ℕ). i ≡ q) j ks rest in
    let here : is_member eqb (j ∷ ks) k ≡ true = ap (λ (b : Bool). b || list_any (eqb k) ks) (eq-eqb k j (first ∙ sym second)) in
    omega (arith, again k (j ∷ ks) here, all_one q (j ∷ ks) rest)

no_member : (k : ℕ) (ks js : List ℕ) → is_member eqb (ks ++ js) k ≡ false → is_member eqb ks k ≡ false
no_member k ks js none = elim (cases_Bool (is_member eqb ks k)) [
  | inl is ↦ absurd (true≢false (sym (list_any-append (eqb k) ks js ∙ ap (λ (b : Bool). b || list_any (eqb k) js) is) ∙ none))
  | inr is ↦ is
]

-- more of one number are at most one number more
one_more : (q : ℕ) (ks js : List ℕ) → All (λ k. k ≡ q) js → different (ks ++ js) ≤ different ks + 1
one_more q [] js same = omega (arith, all_one q js same)
one_more q (k ∷ ks) js same =
    elim (cases_Bool (is_member eqb (ks ++ js) k)) [
      | inl is ↦ omega (arith, again k (ks ++ js) is, one_more q ks js same, no_fewer k ks)
      | inr is ↦ omega (arith, fresh k (ks ++ js) is, fresh k ks (no_member k ks js is), one_more q ks js same)
    ]

-- the query numbers of the learnt clauses
abbrev queries : List Entry → List ℕ
queries es = map (λ (e : Entry). e.query) (filter is_learnt_entry es)

queries_append : (es fs : List Entry) → queries (es ++ fs) ≡ queries es ++ queries fs
queries_append es fs =
    ap (map (λ (e : Entry). e.query)) (filter-append is_learnt_entry es fs)
    ∙ map-append (λ (e : Entry). e.query) (filter is_learnt_entry es) (filter is_learnt_entry fs)

-- entries of one query are at most one query more
pub most_queries : (q : ℕ) (es fs : List Entry) → All (λ e. e.query ≡ q) fs → learning_queries (es ++ fs) ≤ learning_queries es + 1
most_queries q es fs own =
    let same : All (λ k. k ≡ q) (queries fs) = All-map (λ (k : ℕ). k ≡ q) (λ (e : Entry). e.query) (filter is_learnt_entry fs)
    (All-filter is_learnt_entry (λ (e : Entry). e.query ≡ q) fs own) in
    subst (λ (ks : List ℕ). different ks ≤ learning_queries es + 1) (sym (queries_append es fs)) (one_more q (queries es) (queries fs) same)

length_zero : {X : Type 0} (xs : List X) → length xs ≡ 0 → xs ≡ []
length_zero [] none = refl
length_zero (x ∷ xs) none = absurd (omega (arith, none))

-- where nothing was learnt, no query learnt
pub same_queries : (es fs : List Entry) → learnt_count (es ++ fs) ≡ learnt_count es → learning_queries (es ++ fs) ≡ learning_queries es
same_queries es fs same =
    let count : length (filter is_learnt_entry (es ++ fs)) ≡ length (filter is_learnt_entry es) =
    length-filter is_learnt_entry (es ++ fs) ∙ same ∙ sym (length-filter is_learnt_entry es) in
    let parts : length (filter is_learnt_entry es ++ filter is_learnt_entry fs) ≡ length (filter is_learnt_entry es) =
    sym (ap length (filter-append is_learnt_entry es fs)) ∙ count in
    let none : filter is_learnt_entry fs ≡ [] = length_zero (filter is_learnt_entry fs) (omega (
      arith,
      parts,
      length-append
          (filter is_learnt_entry es) (filter is_learnt_entry fs),
    )) in
    ap different (queries_append es fs ∙ ap (λ (gs : List Entry). queries es ++ map (λ (e : Entry). e.query) gs) none ∙ append-nil
    (queries es))

-- a query that learnt something
pub asked_once : (old new : Recorded) → IsQueried old new → IsAskedTimes 1 old new
asked_once old new is = record {
  most = subst (λ (es : List Entry). learning_queries es ≤ learning_queries old.entries + 1) (sym is.entries)
      (most_queries new.query old.entries is.more is.own);
  none = λ same. ap learning_queries is.entries
      ∙ same_queries old.entries is.more (sym (ap learnt_count is.entries) ∙ same);
}

-- steps after one another
pub asked_after : (j k : ℕ) (L M N : Recorded) → learnt_count L.entries ≤ learnt_count M.entries
    → learnt_count M.entries ≤ learnt_count N.entries
    → IsAskedTimes j L M → IsAskedTimes k M N → IsAskedTimes (j + k) L N
asked_after j k L M N first second one other = record {
  most = omega (arith, one.most, other.most);
  none = λ same.
      let here : learnt_count M.entries ≡ learnt_count L.entries = omega arith in
      other.none (omega arith) ∙ one.none here;
}

pub asked_same : (L M : Recorded) → M.entries ≡ L.entries → IsAskedTimes 0 L M
asked_same L M same = record {
  most = omega (arith, ap learning_queries same);
  none = λ e. ap learning_queries same;
}

-- no more queries learnt than clauses were learnt
few_different : (ks : List ℕ) → different ks ≤ length ks
few_different [] = omega arith
few_different (k ∷ ks) =
    elim (cases_Bool (is_member eqb ks k)) [
      | inl is ↦ omega (arith, again k ks is, few_different ks)
      | inr is ↦ omega (arith, fresh k ks is, few_different ks)
    ]

pub queries_learnt : (es : List Entry) → learning_queries es ≤ learnt_count es
queries_learnt es = omega (
  arith,
  few_different (queries es),
  length-map (filter is_learnt_entry es) (λ (e : Entry). e.query),
  length-filter is_learnt_entry es,
)

-- at most so many times is at most more times
pub asked_more : (j k : ℕ) (L M : Recorded) → j ≤ k → IsAskedTimes j L M → IsAskedTimes k L M
asked_more j k L M less asked = record { most = omega (arith, asked.most); none = asked.none }

pub queries_few : (conflicts : ℕ) → queries_of conflicts ≤ 1
queries_few zero = omega arith
queries_few (suc conflicts) = omega arith
