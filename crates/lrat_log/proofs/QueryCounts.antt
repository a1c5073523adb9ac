-- How many clauses were learnt, by the queries that they were learnt in.
use Rattle.std.proofs.Common.{◌≡◌, ℕ, ◌+◌, ◌*◌, ◌≤◌, ◌==◌, true, false, eqb, cond, List, [], ◌∷◌, length, get_or, Contains, map, filter}
use Rattle.std.proofs.Common.{refl, sym, ap, subst, inl, inr, ⊎_elim, arith}
use Rattle.std.specs.Prelude.{All, count_by, sum_by}
use Rattle.std.specs.List.{IsDistinct}
use Rattle.std.specs.Set.{unique_keys, distinct_count, is_member}
use Rattle.std.proofs.lemmas.Bool.{cases_Bool, both_ways, false_from_ne_true, and_from, and_left, and_right, cond-true, cond-false, eq-eqb}
use Rattle.std.proofs.lemmas.Bool.{eqb-true}
use Rattle.std.proofs.lemmas.List.{length-map}
use Rattle.std.proofs.lemmas.List.Elements.{All-from_get_or, All-map, All-filter, All-contains, recursion_from_All, Contains-get_or}
use Rattle.std.proofs.lemmas.Map.Steps.{length-le_from_distinct_below}
use Rattle.std.proofs.lemmas.List.Sums.{sum_by-cons, sum_by-le, get_or-le-sum_by, length-filter}
use Rattle.cnf_core.proofs.Lists.{Contains-head, Contains-tail, Contains-cons_cases, member_of_list_any, list_any_of_member}
use Rattle.lrat_log.specs.Entries.{Entry, is_learnt_entry, learnt_count}
use Rattle.lrat_log.specs.Fresh.{is_learnt_in, learnt_in}
use Rattle.lrat_log.specs.Laws.{learning_queries, LearningQueriesAreFew}

-- how often the number stands in the list
abbrev times : List ℕ → ℕ → ℕ
times ks q = count_by (λ k. k == q) ks

-- 1 where the numbers are the same
abbrev same : ℕ → ℕ → ℕ
same k q = cond (k == q) 1 0

times-cons : (us ks : List ℕ) (k : ℕ) → sum_by (times (k ∷ ks)) us ≡ sum_by (same k) us + sum_by (times ks) us
times-cons [] ks k = omega arith
times-cons (u ∷ us) ks k =
    omega (
      arith,
      sum_by-cons (times (k ∷ ks)) u us,
      sum_by-cons (same k) u us,
      sum_by-cons (times ks) u us,
      sum_by-cons (λ (x : ℕ). same x u) k ks,
      times-cons us ks k,
    )

-- a list is no longer than the numbers that cover it are often in it
covered : (us ks : List ℕ) → ((q : ℕ) → Contains ks q → Contains us q) → length ks ≤ sum_by (times ks) us
covered us [] all = omega arith
covered us (k ∷ ks) all =
    let (i, within, is) = all k (Contains-head k ks) in
    let one : same k (get_or us i k) ≤ sum_by (same k) us = get_or-le-sum_by (same k) us i k within in
    let found : same k (get_or us i k) ≡ 1 = cond-true (k == get_or us i k) 1 0 (eq-eqb k (get_or us i k) (sym is)) in
    let rest : length ks ≤ sum_by (times ks) us = covered us ks (λ q there. all q (Contains-tail k ks q there)) in
    omega (arith, times-cons us ks k)

-- each number of a list stands once among its different ones
unique_covers : (ks : List ℕ) (q : ℕ) → Contains ks q → Contains (unique_keys eqb ks) q
unique_covers [] q there = there
unique_covers (k ∷ ks) q there =
    let later : Contains ks q → Contains (unique_keys eqb ks) q = unique_covers ks q in
    elim (cases_Bool (is_member eqb ks k)) [
      | inl again ↦
          (let here : Contains ks k =
          (let (x, in_rest, same) = member_of_list_any (eqb k) ks again in
          subst (λ (y : ℕ). Contains ks y) (sym (eqb-true k x same)) in_rest) in
          rw (cond-true (is_member eqb ks k) (unique_keys eqb ks) (k ∷ unique_keys eqb ks) again)
          (⊎_elim
          (λ (is : k ≡ q). later (subst (λ (y : ℕ). Contains ks y) is here))
          later
          (Contains-cons_cases k ks q there)))
      | inr new ↦
          rw (cond-false (is_member eqb ks k) (unique_keys eqb ks) (k ∷ unique_keys eqb ks) new)
          (⊎_elim
          (λ (is : k ≡ q). subst (λ (y : ℕ). Contains (k ∷ unique_keys eqb ks) y) is (Contains-head k (unique_keys eqb ks)))
          (λ (rest : Contains ks q). Contains-tail k (unique_keys eqb ks) q (later rest))
          (Contains-cons_cases k ks q there))
    ]

few_by_number : (ks : List ℕ) (m : ℕ) → ((q : ℕ) → times ks q ≤ m) → length ks ≤ distinct_count eqb ks * m
few_by_number ks m few =
    let us = unique_keys eqb ks in
    let all : length ks ≤ sum_by (times ks) us = covered us ks (unique_covers ks) in
    let each : All (λ q. times ks q ≤ m) us =
    All-from_get_or (λ (q : ℕ). times ks q ≤ m) us 0 (λ i within. few (get_or us i 0)) in
    omega (arith, sum_by-le (times ks) m us each)

-- the query numbers of the learnt clauses
abbrev queries : List Entry → List ℕ
queries es = map (λ (e : Entry). e.query) (filter is_learnt_entry es)

queries-learnt : (e : Entry) (es : List Entry) → is_learnt_entry e ≡ true → queries (e ∷ es) ≡ e.query ∷ queries es
queries-learnt e es learnt =
    ap (map (λ (x : Entry). x.query))
    (cond-true (is_learnt_entry e) (e ∷ filter is_learnt_entry es) (filter is_learnt_entry es) learnt)

queries-other : (e : Entry) (es : List Entry) → is_learnt_entry e ≡ false → queries (e ∷ es) ≡ queries es
queries-other e es other =
    ap (map (λ (x : Entry). x.query))
    (cond-false (is_learnt_entry e) (e ∷ filter is_learnt_entry es) (filter is_learnt_entry es) other)

learnt_in-here : (e : Entry) (es : List Entry) (q : ℕ) → is_learnt_in q e ≡ true
    → learnt_in (e ∷ es) q ≡ e.literals ∷ learnt_in es q
learnt_in-here e es q here =
    ap (map (λ (x : Entry). x.literals))
    (cond-true (is_learnt_in q e) (e ∷ filter (is_learnt_in q) es) (filter (is_learnt_in q) es) here)

learnt_in-other : (e : Entry) (es : List Entry) (q : ℕ) → is_learnt_in q e ≡ false → learnt_in (e ∷ es) q ≡ learnt_in es q
learnt_in-other e es q other =
    ap (map (λ (x : Entry). x.literals))
    (cond-false (is_learnt_in q e) (e ∷ filter (is_learnt_in q) es) (filter (is_learnt_in q) es) other)

times_in_queries : (es : List Entry) (q : ℕ) → times (queries es) q ≡ length (learnt_in es q)
times_in_queries [] q = refl
times_in_queries (e ∷ es) q =
    let rest : times (queries es) q ≡ length (learnt_in es q) = times_in_queries es q in
    let first : times (e.query ∷ queries es) q ≡ same e.query q + times (queries es) q =
    sum_by-cons (λ (x : ℕ). same x q) e.query (queries es) in
    elim (cases_Bool (is_learnt_entry e)) [
      | inl learnt ↦ rw (queries-learnt e es learnt) (elim (cases_Bool (e.query == q)) [
        | inl here ↦
            (let one : same e.query q ≡ 1 = cond-true (e.query == q) 1 0 here in
            omega (arith, ap length (learnt_in-here e es q (and_from (is_learnt_entry e) (e.query == q) learnt here))))
        | inr elsewhere ↦
            (let none : same e.query q ≡ 0 = cond-false (e.query == q) 1 0 elsewhere in
            omega (arith, ap length (learnt_in-other e es q (and_right (is_learnt_entry e) (e.query == q) elsewhere))))
      ])
      | inr other ↦
          rw (queries-other e es other)
          (omega (arith, ap length (learnt_in-other e es q (and_left (is_learnt_entry e) (e.query == q) other))))
    ]

pub learnt_by_queries : (es : List Entry) (m : ℕ) → ((q : ℕ) → length (learnt_in es q) ≤ m)
    → learnt_count es ≤ learning_queries es * m
learnt_by_queries es m few =
    let size : length (queries es) ≡ length (filter is_learnt_entry es) =
    length-map (filter is_learnt_entry es) (λ (e : Entry). e.query) in
    let count : length (filter is_learnt_entry es) ≡ learnt_count es = length-filter is_learnt_entry es in
    omega (arith, few_by_number (queries es) m (λ q. omega (arith, times_in_queries es q, few q)))

-- the different numbers of a list are among them, and differ
member_of_unique : (ks : List ℕ) (q : ℕ) → Contains (unique_keys eqb ks) q → Contains ks q
member_of_unique [] q there = there
member_of_unique (k ∷ ks) q there =
    elim (cases_Bool (is_member eqb ks k)) [
      | inl again ↦
          Contains-tail k ks q (member_of_unique ks q
          (rw (cond-true (is_member eqb ks k) (unique_keys eqb ks) (k ∷ unique_keys eqb ks) again) at there))
      | inr new ↦ ⊎_elim
          (λ (is : k ≡ q). subst (λ (y : ℕ). Contains (k ∷ ks) y) is (Contains-head k ks))
          (λ (rest : Contains (unique_keys eqb ks) q). Contains-tail k ks q (member_of_unique ks q rest))
          (Contains-cons_cases k (unique_keys eqb ks) q
          (rw (cond-false (is_member eqb ks k) (unique_keys eqb ks) (k ∷ unique_keys eqb ks) new) at there))
    ]

unique_are_distinct : (ks : List ℕ) → IsDistinct eqb (unique_keys eqb ks)
unfolding IsDistinct
unique_are_distinct [] = tt
unique_are_distinct (k ∷ ks) =
    let us = unique_keys eqb ks in
    elim (cases_Bool (is_member eqb ks k)) [
      | inl again ↦ rw (cond-true (is_member eqb ks k) us (k ∷ us) again) (unique_are_distinct ks)
      | inr new ↦
          rw (cond-false (is_member eqb ks k) us (k ∷ us) new) (
            recursion_from_All (λ (y : ℕ). eqb k y ≡ false) us
                (All-from_get_or (λ (y : ℕ). eqb k y ≡ false) us 0 (λ i within.
                false_from_ne_true (eqb k (get_or us i 0)) (λ same.
                both_ways (is_member eqb ks k) new
                (list_any_of_member (eqb k) ks (get_or us i 0)
                (member_of_unique ks (get_or us i 0) (Contains-get_or us i 0 within)) same)))),
            unique_are_distinct ks,
          )
    ]

pub learning_queries_are_few : LearningQueriesAreFew
learning_queries_are_few L log =
    let ks = queries L.entries in
    let low : All (λ q. q ≤ L.query) ks =
    All-map (λ (q : ℕ). q ≤ L.query) (λ (e : Entry). e.query) (filter is_learnt_entry L.entries)
    (All-filter is_learnt_entry (λ (e : Entry). e.query ≤ L.query) L.entries log.queries) in
    length-le_from_distinct_below (unique_keys eqb ks) (L.query + 1) (unique_are_distinct ks) (λ q some.
    let (x, there, same) = member_of_list_any (eqb q) (unique_keys eqb ks) some in
    let le : x ≤ L.query = All-contains (λ (y : ℕ). y ≤ L.query) ks x low (member_of_unique ks x there) in
    omega (arith, eqb-true q x same))
