-- The lists while they are filled: each from its end on, and apart from all others.
use Rattle.std.proofs.Common.{◌≡◌, ◌≢◌, ℕ, zero, suc, ◌+◌, ◌-◌, ◌^◌, ◌<◌, ◌≤◌, ◌↔◌, ◌⊎◌, false, IsTrue, List, [], ◌∷◌, ◌++◌, length, replicate, Contains, take, drop, set, get_or, sym, ap, ◌∙◌, subst, ⊎_elim, length-set, get_or-set_same, get_or-set_other, arith}
use Rattle.std.specs.List.{sum_by}
use Rattle.std.proofs.lemmas.Bool.{cases_eq, cases_lt, both_ways}
use Rattle.std.proofs.lemmas.List.{get_or_default, get_or-take, get_or-drop, length-take-le, length-drop, take_more, take_all, length-replicate}
use Rattle.std.proofs.lemmas.List.Sums.{sum_by_more, sum_by_more_le, sum_by-take-le}
use Rattle.std.proofs.lemmas.List.Elements.{All-get_or, Contains-get_or, Contains-push_cases}
use Rattle.cnf_core.specs.Literals.{Literal, Literals, Assignment, is_true, IsWithin, AreWithin}
use Rattle.cnf_core.specs.Formulas.{Cnf, IsFormula, literal_count, true_literal}
use Rattle.cnf_core.proofs.Lists.{Contains-nil}
use Rattle.cnf_core.proofs.Truth.{true_literal_of_is_true}
use Rattle.flip_literals.specs.Listings.{clause_at, StandsAt}
use Rattle.flip_literals.specs.Steps.Listed.{hit, hits, all_hits, hits_before, IsCounted, IsSummed, IsListed, IsFilled, IsIndex}
use Rattle.flip_literals.proofs.Marked.{true_literal_holds}

-- the literal j of the clause at a place
pub record IsLiteralAt (F : Cnf) (place j : ℕ) (l : Literal) : Type 0 where
  pub below : place < length F.clauses
  pub inside : j < length (clause_at F place)
  pub is : l ≡ get_or (clause_at F place) j l

-- the clause that is read at a place
pub clause_read : (F : Cnf) (clauses : List Literals) (place : ℕ) (item lits : Literals) → clauses ≡ F.clauses
    → place < length F.clauses → item ≡ get_or clauses place item → lits ≡ item → lits ≡ clause_at F place
clause_read F clauses place item lits all below is same =
    same ∙ is ∙ ap (λ (cs : List Literals). get_or cs place item) all ∙ get_or_default F.clauses place item [] below

pub literal_read : (F : Cnf) (place j : ℕ) (lits : Literals) (l : Literal) → lits ≡ clause_at F place
    → place < length F.clauses → j < length lits → l ≡ get_or lits j l → IsLiteralAt F place j l
literal_read F place j lits l clause below inside is = record {
  below = below;
  inside = subst (λ (c : Literals). j < length c) clause inside;
  is = subst (λ (c : Literals). l ≡ get_or c j l) clause is;
}

pub literal_within : (F : Cnf) (place j : ℕ) (l : Literal) → IsFormula F → IsLiteralAt F place j l
    → IsWithin F.vars l
literal_within F place j l limits at =
    let clause : AreWithin F.vars (clause_at F place) =
    All-get_or (AreWithin F.vars) F.clauses place [] at.below limits.within in
    subst (IsWithin F.vars) (sym at.is) (All-get_or (IsWithin F.vars) (clause_at F place) j l at.inside clause)

hit_own : (a : Assignment) (l : Literal) → IsTrue (is_true a l) → hit a l.var l ≡ 1
hit_own a l holds = grind arith

hit_other : (a : Assignment) (v : ℕ) (l : Literal) → l.var ≢ v → hit a v l ≡ 0
hit_other a v l other = grind arith

hit_false : (a : Assignment) (v : ℕ) (l : Literal) → is_true a l ≡ false → hit a v l ≡ 0
hit_false a v l fails = grind arith

-- one literal more
hits_more : (F : Cnf) (a : Assignment) (place j v : ℕ) (l : Literal) → j < length (clause_at F place)
    → l ≡ get_or (clause_at F place) j l → hits_before F a place (j + 1) v ≡ hits_before F a place j v + hit a v l
hits_more F a place j v l below is =
    let more : hits a v (take (j + 1) (clause_at F place)) ≡ hits a v (take j (clause_at F place)) + hit a v l =
    sum_by_more (hit a v) (clause_at F place) j l below
    ∙ ap (λ (k : Literal). hits a v (take j (clause_at F place)) + hit a v k) (sym is) in
    omega (arith, more)

hits_fit : (F : Cnf) (a : Assignment) (place j v : ℕ) → place < length F.clauses
    → hits_before F a place j v ≤ all_hits F a v
hits_fit F a place j v below =
    let clause : sum_by (hits a v) (take place F.clauses) + hits a v (clause_at F place) ≤ all_hits F a v =
    sum_by_more_le (hits a v) F.clauses place [] below in
    let part : hits a v (take j (clause_at F place)) ≤ hits a v (clause_at F place) =
    sum_by-take-le (hit a v) (clause_at F place) j in
    omega (arith, clause, part)

-- a whole clause
hits_clause : (F : Cnf) (a : Assignment) (place j v : ℕ) → place < length F.clauses
    → length (clause_at F place) ≤ j → hits_before F a place j v ≡ hits_before F a (place + 1) 0 v
hits_clause F a place j v below whole =
    let clause : sum_by (hits a v) (take (place + 1) F.clauses)
    ≡ sum_by (hits a v) (take place F.clauses) + hits a v (clause_at F place) =
    sum_by_more (hits a v) F.clauses place [] below in
    let all : hits a v (take j (clause_at F place)) ≡ hits a v (clause_at F place) =
    ap (hits a v) (take_all j (clause_at F place) whole) in
    omega (arith, clause, all)

-- all clauses
hits_all : (F : Cnf) (a : Assignment) (v : ℕ) → hits_before F a (length F.clauses) 0 v ≡ all_hits F a v
hits_all F a v =
    let all : sum_by (hits a v) (take (length F.clauses) F.clauses) ≡ all_hits F a v =
    ap (sum_by (hits a v)) (take_all (length F.clauses) F.clauses (omega arith)) in
    omega (arith, all)

-- the literals up to one are those before it, and it
taken_cases : (F : Cnf) (place j : ℕ) (l k : Literal) → j < length (clause_at F place)
    → l ≡ get_or (clause_at F place) j l → Contains (take (j + 1) (clause_at F place)) k
    → Contains (take j (clause_at F place)) k ⊎ (l ≡ k)
taken_cases F place j l k inside is here =
    let more : take (j + 1) (clause_at F place) ≡ take j (clause_at F place) ++ l ∷ [] =
    take_more (clause_at F place) j l inside
    ∙ ap (λ (m : Literal). take j (clause_at F place) ++ m ∷ []) (sym is) in
    Contains-push_cases (take j (clause_at F place)) l k (subst (λ (c : Literals). Contains c k) more here)

-- the start of a literal's list, before which there is room
pub record IsStart (starts places : List ℕ) (l : Literal) (start : ℕ) : Type 0 where
  pub is : start ≡ get_or starts l.var 0
  pub some : 1 ≤ start
  pub inside : start - 1 < length places

-- the ends rise
module _ (F : Cnf) (a : Assignment) (place j : ℕ) (starts places : List ℕ) (f : IsFilled F a place j starts places) where
  ends_up : (u d : ℕ) → u + d ≤ F.vars + 1 → f.ends u ≤ f.ends (u + d)
  ends_up u zero high = let same : u + 0 ≡ u = omega arith in rw same (omega arith)
  ends_up u (suc d) high =
      let up = ends_up u d (omega arith) in
      let step = f.rises (u + suc d) (omega arith) high in
      let before : u + suc d - 1 ≡ u + d = omega arith in
      let is : f.ends (u + d) + all_hits F a (u + suc d) ≡ f.ends (u + suc d) =
      subst (λ n. f.ends n + all_hits F a (u + suc d) ≡ f.ends (u + suc d)) before step in
      omega (arith, up, is)

  pub ends_mono : (u w : ℕ) → u ≤ w → w ≤ F.vars + 1 → f.ends u ≤ f.ends w
  ends_mono u w below high =
      let whole : u + (w - u) ≡ w = omega arith in
      subst (λ n. f.ends u ≤ f.ends n) whole (ends_up u (w - u) (omega arith))

  -- a list doesn't begin before the one before it ends
  pub starts_behind : (v : ℕ) → place < length F.clauses → 0 < v → v ≤ F.vars + 1
      → f.ends (v - 1) ≤ get_or starts v 0
  starts_behind v below low high =
      omega (arith, f.starting v (omega arith), hits_fit F a place j v below, f.rises v low high)

  -- a true literal has room before the start of its variable's list
  has_room : (l : Literal) → IsLiteralAt F place j l → IsWithin F.vars l → IsTrue (is_true a l)
      → f.ends (l.var - 1) < get_or starts l.var 0
  has_room l at within holds =
      let low : 0 < l.var = within.low in
      let high : l.var ≤ F.vars = within.high in
      let one = hit_own a l holds in
      omega (
        arith,
        f.starting l.var (omega arith),
        hits_more F a place j l.var l at.inside at.is,
        one,
        hits_fit F a place (j + 1) l.var at.below,
        f.rises l.var low (omega arith),
      )

  start_inside : (v : ℕ) → v ≤ F.vars → get_or starts v 0 ≤ length places
  start_inside v high = omega (arith, f.starting v (omega arith), f.within v (omega arith))

  -- what is read at the literal's variable is the start of its list, and one less lies in the lists
  pub start_read : (l : Literal) (v start : ℕ) → IsLiteralAt F place j l → IsWithin F.vars l → IsTrue (is_true a l)
      → v ≡ l.var → start ≡ get_or starts v start → IsStart starts places l start
  start_read l v start at within holds var is =
      let low : 0 < l.var = within.low in
      let high : l.var ≤ F.vars = within.high in
      let same : start ≡ get_or starts l.var 0 =
      is ∙ get_or_default starts v start 0 (omega (arith, f.each)) ∙ ap (λ w. get_or starts w 0) var in
      record {
        is = same;
        some = omega (arith, same, has_room l at within holds);
        inside = omega (arith, same, has_room l at within holds, start_inside l.var high);
      }

  -- what lies in a list isn't the entry before the start of any
  apart : (v w k : ℕ) → place < length F.clauses → 0 < v → v ≤ F.vars → f.ends (v - 1) < get_or starts v 0
      → 0 < w → w ≤ F.vars → get_or starts w 0 ≤ k → k < f.ends w → k ≢ get_or starts v 0 - 1
  apart v w k below low_v high_v room low_w high_w low_k high_k =
      ⊎_elim
      (λ (own : w ≡ v).
      let starts_there : get_or starts v 0 ≤ k = subst (λ u. get_or starts u 0 ≤ k) own low_k in
      omega arith)
      (λ (other : w ≢ v).
      ⊎_elim
      (λ (before : w < v).
      let up = ends_mono w (v - 1) (omega arith) (omega arith) in
      omega arith)
      (λ (behind : v ≤ w).
      let up = ends_mono v (w - 1) (omega arith) (omega arith) in
      let starting = starts_behind w below low_w (omega arith) in
      let end = f.starting v (omega arith) in
      omega arith)
      (cases_lt w v))
      (cases_eq w v)

-- a false literal
pub filled-miss : (F : Cnf) (a : Assignment) (place j : ℕ) (starts places : List ℕ) (l : Literal)
    → IsFilled F a place j starts places → IsLiteralAt F place j l → is_true a l ≡ false
    → IsFilled F a place (j + 1) starts places
filled-miss F a place j starts places l f at fails = record {
  each = f.each;
  ends = f.ends;
  rises = f.rises;
  within = f.within;
  starting = λ v high. omega (arith, f.starting v high, hits_more F a place j v l at.inside at.is, hit_false a v l fails);
  sound = f.sound;
  before = f.before;
  present = λ v low high here. f.present v low high (earlier v here);
}
  where
    earlier : (v : ℕ) → Contains (take (j + 1) (clause_at F place)) (true_literal a v)
        → Contains (take j (clause_at F place)) (true_literal a v)
    earlier v here =
        ⊎_elim
        (λ (before : Contains (take j (clause_at F place)) (true_literal a v)). before)
        (λ (own : l ≡ true_literal a v).
        absurd (both_ways (is_true a l) fails (subst (λ k. IsTrue (is_true a k)) (sym own) (true_literal_holds a v))))
        (taken_cases F place j l (true_literal a v) at.inside at.is here)

-- a true literal
pub filled-hit : (F : Cnf) (a : Assignment) (place j : ℕ) (starts places : List ℕ) (l : Literal) (start : ℕ)
    → IsFilled F a place j starts places → IsLiteralAt F place j l → IsWithin F.vars l → IsTrue (is_true a l)
    → start ≡ get_or starts l.var 0 - 1
    → IsFilled F a place (j + 1) (set starts l.var start) (set places start place)
filled-hit F a place j starts places l start f at l_within holds start_is = record {
  each = length-set starts l.var start ∙ f.each;
  ends = f.ends;
  rises = f.rises;
  within = λ v within. omega (arith, f.within v within, length-set places start place);
  starting = λ v within. starting v within;
  sound = λ v k low_v high_v low_k high_k. sound v k low_v high_v low_k high_k;
  before = λ v p low_v high_v earlier stands. kept v p low_v high_v (f.before v p low_v high_v earlier stands);
  present = λ v low_v high_v here.
      ⊎_elim
      (λ (earlier : Contains (take j (clause_at F place)) (true_literal a v)).
      kept v place low_v high_v (f.present v low_v high_v earlier))
      (λ (own : l ≡ true_literal a v). new v (ap (λ (k : Literal). k.var) own))
      (taken_cases F place j l (true_literal a v) at.inside at.is here);
}
  where
    low : 0 < l.var
    low = l_within.low

    high : l.var ≤ F.vars
    high = l_within.high

    room : f.ends (l.var - 1) < get_or starts l.var 0
    room = has_room F a place j starts places f l at l_within holds

    own_start : get_or (set starts l.var start) l.var 0 ≡ start
    own_start = get_or-set_same starts l.var start 0 (omega (arith, f.each))

    own_end : start < f.ends l.var
    own_end = omega (arith, room, start_is, f.starting l.var (omega arith))

    own_place : get_or (set places start place) start 0 ≡ place
    own_place = get_or-set_same places start place 0
        (omega (arith, room, start_is, start_inside F a place j starts places f l.var high))

    other_start : (v : ℕ) → v ≢ l.var → get_or (set starts l.var start) v 0 ≡ get_or starts v 0
    other_start v other = get_or-set_other starts l.var v start 0 other

    -- no list begins later than before
    low_start : (v : ℕ) → get_or (set starts l.var start) v 0 ≤ get_or starts v 0
    low_start v = ⊎_elim
        (λ (own : v ≡ l.var).
        subst (λ w. get_or (set starts l.var start) w 0 ≤ get_or starts w 0) (sym own) (omega (arith, own_start, start_is)))
        (λ (other : v ≢ l.var). omega (arith, other_start v other))
        (cases_eq v l.var)

    starting : (v : ℕ) → v < F.vars + 2
        → get_or (set starts l.var start) v 0 + hits_before F a place (j + 1) v ≡ f.ends v
    starting v within = ⊎_elim
        (λ (own : v ≡ l.var).
        subst (λ w. get_or (set starts l.var start) w 0 + hits_before F a place (j + 1) w ≡ f.ends w) (sym own)
        (omega (
          arith,
          own_start,
          start_is,
          room,
          f.starting l.var (omega arith),
          hits_more F a place j l.var l at.inside at.is,
          hit_own a l holds,
        )))
        (λ (other : v ≢ l.var).
        omega (
          arith,
          other_start v other,
          f.starting v within,
          hits_more F a place j v l at.inside at.is,
          hit_other a v l (λ own. other (sym own)),
        ))
        (cases_eq v l.var)

    stays : (v k : ℕ) → 0 < v → v ≤ F.vars → get_or starts v 0 ≤ k → k < f.ends v
        → get_or (set places start place) k 0 ≡ get_or places k 0
    stays v k low_v high_v low_k high_k =
        get_or-set_other places start k place 0
        (λ same. apart F a place j starts places f l.var v k at.below low high room low_v high_v low_k high_k
        (same ∙ start_is))

    kept : (v p : ℕ) → 0 < v → v ≤ F.vars → IsListed places (get_or starts v 0) (f.ends v) p
        → IsListed (set places start place) (get_or (set starts l.var start) v 0) (f.ends v) p
    kept v p low_v high_v listed = record {
      at = listed.at;
      low = omega (arith, low_start v, listed.low);
      high = listed.high;
      is = stays v listed.at low_v high_v listed.low listed.high ∙ listed.is;
    }

    new : (v : ℕ) → l.var ≡ v
        → IsListed (set places start place) (get_or (set starts l.var start) v 0) (f.ends v) place
    new v own = subst
        (λ w. IsListed (set places start place) (get_or (set starts l.var start) w 0) (f.ends w) place) own
        (record { at = start; low = omega (arith, own_start); high = own_end; is = own_place })

    stands : StandsAt F a l.var place
    stands = record {
      within = at.below;
      here = subst (λ k. Contains (clause_at F place) k) (sym (true_literal_of_is_true a l holds))
          (subst (λ k. Contains (clause_at F place) k) (sym at.is) (Contains-get_or (clause_at F place) j l at.inside));
    }

    sound : (v k : ℕ) → 0 < v → v ≤ F.vars → get_or (set starts l.var start) v 0 ≤ k → k < f.ends v
        → StandsAt F a v (get_or (set places start place) k 0)
    sound v k low_v high_v low_k high_k =
        let older : get_or starts v 0 ≤ k → StandsAt F a v (get_or (set places start place) k 0) =
        λ later. subst (StandsAt F a v) (sym (stays v k low_v high_v later high_k)) (f.sound v k low_v high_v later high_k)
        in
        ⊎_elim
        (λ (own : v ≡ l.var).
        ⊎_elim
        (λ (same : k ≡ start).
        subst (λ n. StandsAt F a v (get_or (set places start place) n 0)) (sym same)
        (subst (StandsAt F a v) (sym own_place) (subst (λ w. StandsAt F a w place) (sym own) stands)))
        (λ (apart_there : k ≢ start).
        let low_there : start ≤ k =
        subst (λ n. n ≤ k) own_start (subst (λ w. get_or (set starts l.var start) w 0 ≤ k) own low_k) in
        older (subst (λ w. get_or starts w 0 ≤ k) (sym own) (omega (arith, start_is))))
        (cases_eq k start))
        (λ (other : v ≢ l.var). older (omega (arith, other_start v other, low_k)))
        (cases_eq v l.var)

-- a whole clause
pub filled-clause : (F : Cnf) (a : Assignment) (place j : ℕ) (starts places : List ℕ)
    → IsFilled F a place j starts places → place < length F.clauses → length (clause_at F place) ≤ j
    → IsFilled F a (place + 1) 0 starts places
filled-clause F a place j starts places f below whole = record {
  each = f.each;
  ends = f.ends;
  rises = f.rises;
  within = f.within;
  starting = λ v high. omega (arith, f.starting v high, hits_clause F a place j v below whole);
  sound = f.sound;
  before = λ v p low high earlier stands.
      ⊎_elim
      (λ (here : p ≡ place).
      subst (IsListed places (get_or starts v 0) (f.ends v)) (sym here)
      (f.present v low high
      (subst (λ (c : Literals). Contains c (true_literal a v)) (sym (take_all j (clause_at F place) whole))
      (subst (λ n. Contains (clause_at F n) (true_literal a v)) here stands.here))))
      (λ (other : p ≢ place). f.before v p low high (omega arith) stands)
      (cases_eq p place);
  present = λ v low high here. absurd (Contains-nil (true_literal a v) here);
}

-- before an index stand the sums, and from it on the counts
pub record IsSumming (counts now : List ℕ) (i total : ℕ) : Type 0 where
  pub each : length now ≡ length counts
  pub total_is : total ≡ sum_by (λ n. n) (take i counts)
  pub summed : (k : ℕ) → k < i → get_or now k 0 ≡ sum_by (λ n. n) (take (k + 1) counts)
  pub left : (k : ℕ) → i ≤ k → get_or now k 0 ≡ get_or counts k 0

pub summing-read : (counts now : List ℕ) (i total x : ℕ) → IsSumming counts now i total → i < length counts
    → x ≡ get_or now i x → x ≡ get_or counts i 0
summing-read counts now i total x s below is =
    is ∙ get_or_default now i x 0 (omega (arith, s.each)) ∙ s.left i (omega arith)

pub summing-fits : (counts now : List ℕ) (i total x : ℕ) → IsSumming counts now i total → i < length counts
    → x ≡ get_or now i x → total + x ≤ sum_by (λ n. n) counts
summing-fits counts now i total x s below is =
    omega (arith, s.total_is, summing-read counts now i total x s below is, sum_by_more_le (λ n. n) counts i 0 below)

pub summing-more : (counts now : List ℕ) (i total x : ℕ) → IsSumming counts now i total → i < length counts
    → x ≡ get_or now i x → IsSumming counts (set now i (total + x)) (i + 1) (total + x)
summing-more counts now i total x s below is =
    let all : total + x ≡ sum_by (λ n. n) (take (i + 1) counts) =
    omega (arith, s.total_is, summing-read counts now i total x s below is, sum_by_more (λ n. n) counts i 0 below) in
    record {
      each = length-set now i (total + x) ∙ s.each;
      total_is = all;
      summed = λ k before.
          ⊎_elim
          (λ (own : k ≡ i).
          subst (λ n. get_or (set now i (total + x)) n 0 ≡ sum_by (λ n. n) (take (n + 1) counts)) (sym own)
          (get_or-set_same now i (total + x) 0 (omega (arith, s.each)) ∙ all))
          (λ (other : k ≢ i). get_or-set_other now i k (total + x) 0 other ∙ s.summed k (omega arith))
          (cases_eq k i);
      left = λ k behind.
          let other : k ≢ i = omega arith in
          get_or-set_other now i k (total + x) 0 other ∙ s.left k (omega arith);
    }

-- the sums of the counts are the ends
pub filled-start : (F : Cnf) (a : Assignment) (counts ends : List ℕ) (total : ℕ)
    → IsCounted F a (length F.clauses) 0 counts → IsSummed counts ends total
    → IsFilled F a 0 0 ends (replicate total 0)
filled-start F a counts ends total counted summed = record {
  each = summed.each ∙ counted.each;
  ends = λ v. sum_by (λ n. n) (take (v + 1) counts);
  rises = λ v low high.
      let here : v < length counts = omega (arith, counted.each) in
      let more = sum_by_more (λ n. n) counts v 0 here in
      let before : v - 1 + 1 ≡ v = omega arith in
      let is : sum_by (λ n. n) (take (v - 1 + 1) counts) ≡ sum_by (λ n. n) (take v counts) =
      ap (λ i. sum_by (λ n. n) (take i counts)) before in
      omega (arith, more, is, counted.counted v (omega arith), hits_all F a v);
  within = λ v high. omega (arith, sum_by-take-le (λ n. n) counts (v + 1), summed.all, length-replicate {A = ℕ} total 0);
  starting = λ v high. omega (arith, summed.summed v (omega (arith, counted.each)));
  sound = λ v k low high low_k high_k. absurd (omega (arith, summed.summed v (omega (arith, counted.each))));
  before = λ v p low high earlier stands. absurd (omega arith);
  present = λ v low high here. absurd (Contains-nil (true_literal a v) here);
}

-- filled by all clauses
pub index_filled : (F : Cnf) (a : Assignment) (starts places : List ℕ) → IsFormula F → length a ≡ F.vars
    → IsFilled F a (length F.clauses) 0 starts places → IsIndex F a starts places
index_filled F a starts places limits values f = record {
  limits = limits;
  values = values;
  each = f.each;
  rises = λ v low high. omega (arith, begins v low (omega arith), ends v high, f.rises v low (omega arith));
  within = λ v low high. omega (arith, ends v high, f.within v (omega arith));
  sound = λ v k low high low_k high_k. f.sound v k low high low_k (omega (arith, ends v high));
  whole = λ v p low high stands.
      let listed = f.before v p low high stands.within stands in
      record { at = listed.at; low = listed.low; high = omega (arith, listed.high, ends v high); is = listed.is };
}
  where
    begins : (v : ℕ) → 0 < v → v ≤ F.vars + 1 → get_or starts v 0 ≡ f.ends (v - 1)
    begins v low high = omega (arith, f.starting v (omega arith), hits_all F a v, f.rises v low high)

    ends : (v : ℕ) → v ≤ F.vars → get_or starts (v + 1) 0 ≡ f.ends v
    ends v high =
        let one : v + 1 - 1 ≡ v = omega arith in
        subst (λ n. get_or starts (v + 1) 0 ≡ f.ends n) one (begins (v + 1) (omega arith) (omega arith))

-- the counts' sum fits
pub counted_total : (F : Cnf) (a : Assignment) (place : ℕ) (counts : List ℕ) → IsFormula F
    → IsCounted F a place 0 counts → sum_by (λ n. n) counts ≤ 2 ^ 23
counted_total F a place counts limits counted =
    let part : literal_count (take place F.clauses) ≤ literal_count F.clauses = sum_by-take-le length F.clauses place in
    omega (arith, part, counted.total, limits.literals_limit)

-- the part between two starts has just the variable's places
pub index_places : (F : Cnf) (a : Assignment) (starts places : List ℕ) (v start end p : ℕ)
    → IsIndex F a starts places → 0 < v → v ≤ F.vars → start ≡ get_or starts v start → end ≡ get_or starts (v + 1) end
    → Contains (take (end - start) (drop start places)) p ↔ StandsAt F a v p
index_places F a starts places v start end p index low high start_is end_is = (
  λ here.
      let below : here.0 < end - start = omega (arith, here.1, part_length) in
      let at : get_or places (start + here.0) 0 ≡ p = sym (part_at here.0 below) ∙ here.2 in
      subst (StandsAt F a v) at
      (index.sound v (start + here.0) low high (omega (arith, begins)) (omega (arith, ends, begins, below))),
  λ stands.
      let listed = index.whole v p low high stands in
      let below : listed.at - start < end - start =
      omega (arith, listed.low, listed.high, begins, ends) in
      let there : start + (listed.at - start) ≡ listed.at = omega (arith, listed.low, begins) in (
        listed.at - start,
        omega (arith, below, part_length),
        part_at (listed.at - start) below ∙ ap (λ k. get_or places k 0) there ∙ listed.is,
      ),
)
  where
    begins : start ≡ get_or starts v 0
    begins = start_is ∙ get_or_default starts v start 0 (omega (arith, index.each))

    ends : end ≡ get_or starts (v + 1) 0
    ends = end_is ∙ get_or_default starts (v + 1) end 0 (omega (arith, index.each))

    inside : end ≤ length places
    inside = omega (arith, ends, index.within v low high)

    part_length : length (take (end - start) (drop start places)) ≡ end - start
    part_length = length-take-le (end - start) (drop start places) (omega (arith, length-drop start places, inside))

    part_at : (k : ℕ) → k < end - start → get_or (take (end - start) (drop start places)) k p ≡ get_or places (start + k) 0
    part_at k below =
        get_or-take (end - start) (drop start places) k p below
        ∙ get_or-drop start places k p
        ∙ get_or_default places (start + k) p 0 (omega (arith, inside, below))
