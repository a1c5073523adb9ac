-- The lists while they are filled: each from its end on, and apart from all others.
use Rattle.std.proofs.Common.{◌≡◌, ◌≢◌, ℕ, zero, suc, ◌+◌, ◌-◌, ◌<◌, ◌≤◌, ◌⊎◌, List, [], ◌∷◌, length, replicate, All, take, drop, set, get_or, sym, ap, ◌∙◌, subst, ⊎_elim, inl, inr, length-set, get_or-set_same, get_or-set_other, arith}
use Rattle.std.specs.List.{sum_by}
use Rattle.std.proofs.lemmas.Bool.{cases_eq, cases_lt}
use Rattle.std.proofs.lemmas.List.{get_or_default, get_or_past, take_all, length-replicate, drop-set, drop-set-lt, drop-set-add, take-set-le}
use Rattle.std.proofs.lemmas.List.Sums.{sum_by_more, sum_by_more_le, sum_by-take-le, sum_by-cons}
use Rattle.std.proofs.lemmas.List.Elements.{All-get_or}
use Rattle.cnf_core.specs.Literals.{Literal, Literals, code_of}
use Rattle.cnf_core.specs.Formulas.{literal_count}
use Rattle.local_search.specs.Cleaned.{clause_at}
use Rattle.local_search.specs.Steps.Listed.{AreClauses, hit, hits, at_place, all_hits, hits_before, IsCounted, IsSummed, between, IsFilled, IsIndex}

-- the literal j of the clause at a place
pub record IsLiteralAt (m : ℕ) (cs : List Literals) (place j : ℕ) (l : Literal) (code : ℕ) : Type 0 where
  pub below : place < length cs
  pub inside : j < length (clause_at cs place)
  pub is : l ≡ get_or (clause_at cs place) j l
  pub code_is : code ≡ code_of l
  pub low : 0 < code
  pub high : code < m

pub literal_read : (m : ℕ) (cs : List Literals) (place j : ℕ) (lits : Literals) (l : Literal) (code : ℕ) → AreClauses m cs
    → lits ≡ clause_at cs place → place < length cs → j < length lits → l ≡ get_or lits j l → code ≡ code_of l → 2 ≤ code
    → IsLiteralAt m cs place j l code
literal_read m cs place j lits l code clauses clause below inside is code_is low =
    let inside_there : j < length (clause_at cs place) = subst (λ (c : Literals). j < length c) clause inside in
    let is_there : l ≡ get_or (clause_at cs place) j l = subst (λ (c : Literals). l ≡ get_or c j l) clause is in
    let fits : code_of (get_or (clause_at cs place) j l) < m =
    All-get_or (λ (k : Literal). code_of k < m) (clause_at cs place) j l inside_there
    (All-get_or (All (λ (k : Literal). code_of k < m)) cs place [] below clauses.fits) in
    let here : code_of l < m = subst (λ (k : Literal). code_of k < m) (sym is_there) fits in
    record {
      below = below;
      inside = inside_there;
      is = is_there;
      code_is = code_is;
      low = omega arith;
      high = omega arith;
    }

hit_own : (code w : ℕ) (l : Literal) → code ≡ code_of l → hit code w l ≡ w
hit_own code w l is = grind arith

hit_other : (code w : ℕ) (l : Literal) → code_of l ≢ code → hit code w l ≡ 0
hit_other code w l other = grind arith

at_own : (p w : ℕ) → at_place p w p ≡ w
at_own p w = grind arith

at_other : (p w q : ℕ) → q ≢ p → at_place p w q ≡ 0
at_other p w q other = grind arith

-- one literal more
hits_take_more : (cs : List Literals) (place j v w : ℕ) (l : Literal) → j < length (clause_at cs place)
    → l ≡ get_or (clause_at cs place) j l → hits v w (take (j + 1) (clause_at cs place)) ≡ hits v w (take j (clause_at cs place)) + hit v w l
hits_take_more cs place j v w l below is =
    sum_by_more (hit v w) (clause_at cs place) j l below
    ∙ ap (λ (k : Literal). hits v w (take j (clause_at cs place)) + hit v w k) (sym is)

hits_more : (cs : List Literals) (place j v : ℕ) (l : Literal) → j < length (clause_at cs place)
    → l ≡ get_or (clause_at cs place) j l → hits_before cs place (j + 1) v ≡ hits_before cs place j v + hit v 1 l
hits_more cs place j v l below is = let more = hits_take_more cs place j v 1 l below is in omega (arith, more)

hits_fit : (cs : List Literals) (place j v : ℕ) → place < length cs → hits_before cs place j v ≤ all_hits cs v
hits_fit cs place j v below =
    let clause : sum_by (hits v 1) (take place cs) + hits v 1 (clause_at cs place) ≤ all_hits cs v =
    sum_by_more_le (hits v 1) cs place [] below in
    let part : hits v 1 (take j (clause_at cs place)) ≤ hits v 1 (clause_at cs place) =
    sum_by-take-le (hit v 1) (clause_at cs place) j in
    omega (arith, clause, part)

-- a whole clause
hits_clause : (cs : List Literals) (place j v : ℕ) → place < length cs
    → length (clause_at cs place) ≤ j → hits_before cs place j v ≡ hits_before cs (place + 1) 0 v
hits_clause cs place j v below whole =
    let clause : sum_by (hits v 1) (take (place + 1) cs)
    ≡ sum_by (hits v 1) (take place cs) + hits v 1 (clause_at cs place) =
    sum_by_more (hits v 1) cs place [] below in
    let all : hits v 1 (take j (clause_at cs place)) ≡ hits v 1 (clause_at cs place) =
    ap (hits v 1) (take_all j (clause_at cs place) whole) in
    omega (arith, clause, all)

-- all clauses
hits_all : (cs : List Literals) (v : ℕ) → hits_before cs (length cs) 0 v ≡ all_hits cs v
hits_all cs v =
    let all : sum_by (hits v 1) (take (length cs) cs) ≡ all_hits cs v =
    ap (sum_by (hits v 1)) (take_all (length cs) cs (omega arith)) in
    omega (arith, all)

-- the start of a literal's list, before which there is room
pub record IsStart (starts places : List ℕ) (code start : ℕ) : Type 0 where
  pub is : start ≡ get_or starts code 0
  pub some : 1 ≤ start
  pub inside : start - 1 < length places

-- the ends rise
module _ (m : ℕ) (cs : List Literals) (place j : ℕ) (starts places : List ℕ) (f : IsFilled m cs place j starts places) where
  ends_up : (u d : ℕ) → u + d < m → f.ends u ≤ f.ends (u + d)
  ends_up u zero high = let same : u + 0 ≡ u = omega arith in rw same (omega arith)
  ends_up u (suc d) high =
      let up = ends_up u d (omega arith) in
      let step = f.rises (u + suc d) (omega arith) high in
      let before : u + suc d - 1 ≡ u + d = omega arith in
      let is : f.ends (u + d) + all_hits cs (u + suc d) ≡ f.ends (u + suc d) =
      subst (λ n. f.ends n + all_hits cs (u + suc d) ≡ f.ends (u + suc d)) before step in
      omega (arith, up, is)

  ends_mono : (u w : ℕ) → u ≤ w → w < m → f.ends u ≤ f.ends w
  ends_mono u w below high =
      let whole : u + (w - u) ≡ w = omega arith in
      subst (λ n. f.ends u ≤ f.ends n) whole (ends_up u (w - u) (omega arith))

  -- a list doesn't begin before the one before it ends
  starts_behind : (v : ℕ) → place < length cs → 0 < v → v < m → f.ends (v - 1) ≤ get_or starts v 0
  starts_behind v below low high =
      omega (arith, f.starting v high, hits_fit cs place j v below, f.rises v low high)

  -- a literal has room before the start of its list
  has_room : (l : Literal) (code : ℕ) → IsLiteralAt m cs place j l code → f.ends (code - 1) < get_or starts code 0
  has_room l code at =
      let one = hit_own code 1 l at.code_is in
      omega (
        arith,
        f.starting code at.high,
        hits_more cs place j code l at.inside at.is,
        one,
        hits_fit cs place (j + 1) code at.below,
        f.rises code at.low at.high,
      )

  start_inside : (v : ℕ) → v < m → get_or starts v 0 ≤ length places
  start_inside v high = omega (arith, f.starting v high, f.within v high)

  -- what is read at the literal's packed form is the start of its list, and one less lies in the lists
  pub start_read : (l : Literal) (code start : ℕ) → IsLiteralAt m cs place j l code
      → start ≡ get_or starts code start → IsStart starts places code start
  start_read l code start at is =
      let same : start ≡ get_or starts code 0 =
      is ∙ get_or_default starts code start 0 (omega (arith, f.each, at.high)) in
      record {
        is = same;
        some = omega (arith, same, has_room l code at);
        inside = omega (arith, same, has_room l code at, start_inside code at.high);
      }

  -- another list lies wholly before or behind the entry before a start
  apart : (code v : ℕ) → place < length cs → 0 < code → code < m → f.ends (code - 1) < get_or starts code 0
      → 0 < v → v < m → v ≢ code
      → (get_or starts code 0 - 1 < get_or starts v 0) ⊎ (f.ends v ≤ get_or starts code 0 - 1)
  apart code v below low high room low_v high_v other =
      ⊎_elim
      (λ (before : v < code).
      let up = ends_mono v (code - 1) (omega arith) (omega arith) in
      inr (omega arith))
      (λ (behind : code ≤ v).
      let up = ends_mono code (v - 1) (omega arith) (omega arith) in
      let starting = starts_behind v below low_v high_v in
      let end = f.starting code high in
      inl (omega arith))
      (cases_lt v code)

-- a write before a part begins that part, and one outside of it leaves it
between-front : (xs : List ℕ) (start end y : ℕ) → start < end → end ≤ length xs
    → between start end (set xs start y) ≡ y ∷ between (start + 1) end xs
between-front xs start end y some inside =
    let one : end - start ≡ suc (end - (start + 1)) = omega arith in
    ap (take (end - start)) (drop-set xs start y (omega arith)) ∙ ap (λ n. take n (y ∷ drop (start + 1) xs)) one

between-before : (xs : List ℕ) (start end i y : ℕ) → i < start → between start end (set xs i y) ≡ between start end xs
between-before xs start end i y before = ap (take (end - start)) (drop-set-lt start xs i y before)

between-behind : (xs : List ℕ) (start end i y : ℕ) → start ≤ i → end ≤ i → between start end (set xs i y) ≡ between start end xs
between-behind xs start end i y low behind =
    let there : start + (i - start) ≡ i = omega arith in
    ap (λ n. take (end - start) (drop start (set xs n y))) (sym there)
    ∙ ap (take (end - start)) (drop-set-add start xs (i - start) y)
    ∙ take-set-le (end - start) (drop start xs) (i - start) y (omega arith)

-- an empty part
between-empty : (xs : List ℕ) (start end : ℕ) → end ≤ start → between start end xs ≡ []
between-empty xs start end none =
    let zero_long : end - start ≡ 0 = omega arith in ap (λ n. take n (drop start xs)) zero_long

-- one literal
pub filled-more : (m : ℕ) (cs : List Literals) (place j : ℕ) (starts places : List ℕ) (l : Literal) (code start : ℕ)
    → IsFilled m cs place j starts places → IsLiteralAt m cs place j l code → start ≡ get_or starts code 0 - 1
    → IsFilled m cs place (j + 1) (set starts code start) (set places start place)
filled-more m cs place j starts places l code start f at start_is = record {
  each = length-set starts code start ∙ f.each;
  ends = f.ends;
  rises = f.rises;
  within = λ v within. omega (arith, f.within v within, length-set places start place);
  starting = λ v within. starting v within;
  below = λ v p w low_v high_v earlier. by_list v (at_place p w) low_v high_v (λ n. n ≡ hits v w (clause_at cs p))
      (f.below v p w low_v high_v earlier)
      (λ own old. let none : at_place p w place ≡ 0 = at_other p w place (omega arith) in omega arith);
  here = λ v w low_v high_v. here v w low_v high_v;
  above = λ v p w low_v high_v later. by_list v (at_place p w) low_v high_v (λ n. n ≡ 0)
      (f.above v p w low_v high_v later)
      (λ own old. let none : at_place p w place ≡ 0 = at_other p w place (omega arith) in omega arith);
}
  where
    room : f.ends (code - 1) < get_or starts code 0
    room = has_room m cs place j starts places f l code at

    own_start : get_or (set starts code start) code 0 ≡ start
    own_start = get_or-set_same starts code start 0 (omega (arith, f.each, at.high))

    own_end : start < f.ends code
    own_end = omega (arith, room, start_is, f.starting code at.high)

    other_start : (v : ℕ) → v ≢ code → get_or (set starts code start) v 0 ≡ get_or starts v 0
    other_start v other = get_or-set_other starts code v start 0 other

    starting : (v : ℕ) → v < m → get_or (set starts code start) v 0 + hits_before cs place (j + 1) v ≡ f.ends v
    starting v within = ⊎_elim
        (λ (own : v ≡ code).
        subst (λ w. get_or (set starts code start) w 0 + hits_before cs place (j + 1) w ≡ f.ends w) (sym own)
        (omega (
          arith,
          own_start,
          start_is,
          room,
          f.starting code at.high,
          hits_more cs place j code l at.inside at.is,
          hit_own code 1 l at.code_is,
        )))
        (λ (other : v ≢ code).
        omega (
          arith,
          other_start v other,
          f.starting v within,
          hits_more cs place j v l at.inside at.is,
          hit_other v 1 l (λ own. other (sym (at.code_is ∙ own))),
        ))
        (cases_eq v code)

    old_part : ℕ → List ℕ
    old_part v = between (get_or starts v 0) (f.ends v) places

    new_part : ℕ → List ℕ
    new_part v = between (get_or (set starts code start) v 0) (f.ends v) (set places start place)

    own_part : between (get_or (set starts code start) code 0) (f.ends code) (set places start place)
        ≡ place ∷ between (get_or starts code 0) (f.ends code) places
    own_part =
        let next : start + 1 ≡ get_or starts code 0 = omega (arith, room, start_is) in
        ap (λ n. between n (f.ends code) (set places start place)) own_start
        ∙ between-front places start (f.ends code) place own_end (f.within code at.high)
        ∙ ap (λ n. place ∷ between n (f.ends code) places) next

    other_part : (v : ℕ) → 0 < v → v < m → v ≢ code
        → between (get_or (set starts code start) v 0) (f.ends v) (set places start place)
        ≡ between (get_or starts v 0) (f.ends v) places
    other_part v low_v high_v other =
        ap (λ n. between n (f.ends v) (set places start place)) (other_start v other)
        ∙ ⊎_elim
        (λ (before : get_or starts code 0 - 1 < get_or starts v 0).
        between-before places (get_or starts v 0) (f.ends v) start place (omega (arith, start_is)))
        (λ (behind : f.ends v ≤ get_or starts code 0 - 1).
        between-behind places (get_or starts v 0) (f.ends v) start place
        (omega (arith, start_is, f.starting v high_v)) (omega (arith, start_is)))
        (apart m cs place j starts places f code v at.below at.low at.high room low_v high_v other)

    by_list : (v : ℕ) (g : ℕ → ℕ) → 0 < v → v < m → (P : ℕ → Type 0)
        → P (sum_by g (between (get_or starts v 0) (f.ends v) places))
        → (v ≡ code → P (sum_by g (between (get_or starts v 0) (f.ends v) places))
        → P (g place + sum_by g (between (get_or starts v 0) (f.ends v) places)))
        → P (sum_by g (between (get_or (set starts code start) v 0) (f.ends v) (set places start place)))
    by_list v g low_v high_v P old step =
        ⊎_elim
        (λ (own : v ≡ code).
        let part : between (get_or (set starts code start) v 0) (f.ends v) (set places start place)
        ≡ place ∷ between (get_or starts v 0) (f.ends v) places =
        subst (λ u. between (get_or (set starts code start) u 0) (f.ends u) (set places start place)
        ≡ place ∷ between (get_or starts u 0) (f.ends u) places) (sym own) own_part in
        subst P (sym (ap (sum_by g) part ∙ sum_by-cons g place (between (get_or starts v 0) (f.ends v) places))) (step own old))
        (λ (other : v ≢ code). subst P (sym (ap (sum_by g) (other_part v low_v high_v other))) old)
        (cases_eq v code)

    here : (v w : ℕ) → 0 < v → v < m
        → sum_by (at_place place w) (between (get_or (set starts code start) v 0) (f.ends v) (set places start place))
        ≡ hits v w (take (j + 1) (clause_at cs place))
    here v w low_v high_v =
        let more = hits_take_more cs place j v w l at.inside at.is in
        let old = f.here v w low_v high_v in
        ⊎_elim
        (λ (own : v ≡ code).
        let part : between (get_or (set starts code start) v 0) (f.ends v) (set places start place)
        ≡ place ∷ between (get_or starts v 0) (f.ends v) places =
        subst (λ u. between (get_or (set starts code start) u 0) (f.ends u) (set places start place)
        ≡ place ∷ between (get_or starts u 0) (f.ends u) places) (sym own) own_part in
        let one : hit v w l ≡ w = hit_own v w l (own ∙ at.code_is) in
        let is : at_place place w place ≡ w = at_own place w in
        let sum = ap (sum_by (at_place place w)) part
        ∙ sum_by-cons (at_place place w) place (between (get_or starts v 0) (f.ends v) places) in
        omega (arith, sum, is, one, more, old))
        (λ (other : v ≢ code).
        let none : hit v w l ≡ 0 = hit_other v w l (λ own. other (sym (at.code_is ∙ own))) in
        let sum = ap (sum_by (at_place place w)) (other_part v low_v high_v other) in
        omega (arith, sum, none, more, old))
        (cases_eq v code)

-- a whole clause
pub filled-clause : (m : ℕ) (cs : List Literals) (place j : ℕ) (starts places : List ℕ)
    → IsFilled m cs place j starts places → place < length cs → length (clause_at cs place) ≤ j
    → IsFilled m cs (place + 1) 0 starts places
filled-clause m cs place j starts places f below whole = record {
  each = f.each;
  ends = f.ends;
  rises = f.rises;
  within = f.within;
  starting = λ v high. omega (arith, f.starting v high, hits_clause cs place j v below whole);
  below = λ v p w low high earlier.
      ⊎_elim
      (λ (own : p ≡ place).
      subst (λ q. sum_by (at_place q w) (between (get_or starts v 0) (f.ends v) places) ≡ hits v w (clause_at cs q)) (sym own)
      (f.here v w low high ∙ ap (hits v w) (take_all j (clause_at cs place) whole)))
      (λ (other : p ≢ place). f.below v p w low high (omega arith))
      (cases_eq p place);
  here = λ v w low high. f.above v (place + 1) w low high (omega arith);
  above = λ v p w low high later. f.above v p w low high (omega arith);
}

-- before an index stand the sums, and from it on the counts
pub record IsSumming (counts now : List ℕ) (i total : ℕ) : Type 0 where
  pub each : length now ≡ length counts
  pub total_is : total ≡ sum_by (λ n. n) (take i counts)
  pub summed : (k : ℕ) → k < i → get_or now k 0 ≡ sum_by (λ n. n) (take (k + 1) counts)
  pub left : (k : ℕ) → i ≤ k → get_or now k 0 ≡ get_or counts k 0

pub summing-read : (counts now : List ℕ) (i total x : ℕ) → IsSumming counts now i total → i < length counts
    → x ≡ get_or now i x → x ≡ get_or counts i 0
summing-read counts now i total x s below is =
    is ∙ get_or_default now i x 0 (omega (arith, s.each)) ∙ s.left i (omega arith)

pub summing-fits : (counts now : List ℕ) (i total x : ℕ) → IsSumming counts now i total → i < length counts
    → x ≡ get_or now i x → total + x ≤ sum_by (λ n. n) counts
summing-fits counts now i total x s below is =
    omega (arith, s.total_is, summing-read counts now i total x s below is, sum_by_more_le (λ n. n) counts i 0 below)

pub summing-more : (counts now : List ℕ) (i total x : ℕ) → IsSumming counts now i total → i < length counts
    → x ≡ get_or now i x → IsSumming counts (set now i (total + x)) (i + 1) (total + x)
summing-more counts now i total x s below is =
    let all : total + x ≡ sum_by (λ n. n) (take (i + 1) counts) =
    omega (arith, s.total_is, summing-read counts now i total x s below is, sum_by_more (λ n. n) counts i 0 below) in
    record {
      each = length-set now i (total + x) ∙ s.each;
      total_is = all;
      summed = λ k before.
          ⊎_elim
          (λ (own : k ≡ i).
          subst (λ n. get_or (set now i (total + x)) n 0 ≡ sum_by (λ n. n) (take (n + 1) counts)) (sym own)
          (get_or-set_same now i (total + x) 0 (omega (arith, s.each)) ∙ all))
          (λ (other : k ≢ i). get_or-set_other now i k (total + x) 0 other ∙ s.summed k (omega arith))
          (cases_eq k i);
      left = λ k behind.
          let other : k ≢ i = omega arith in
          get_or-set_other now i k (total + x) 0 other ∙ s.left k (omega arith);
    }

-- the sums of the counts are the ends
pub filled-start : (m : ℕ) (cs : List Literals) (counts ends : List ℕ) (total : ℕ)
    → IsCounted m cs (length cs) 0 counts → IsSummed counts ends total → IsFilled m cs 0 0 ends (replicate total 0)
filled-start m cs counts ends total counted summed = record {
  each = summed.each ∙ counted.each;
  ends = λ v. sum_by (λ n. n) (take (v + 1) counts);
  rises = λ v low high.
      let here : v < length counts = omega (arith, counted.each) in
      let more = sum_by_more (λ n. n) counts v 0 here in
      let before : v - 1 + 1 ≡ v = omega arith in
      let is : sum_by (λ n. n) (take (v - 1 + 1) counts) ≡ sum_by (λ n. n) (take v counts) =
      ap (λ i. sum_by (λ n. n) (take i counts)) before in
      omega (arith, more, is, counted.counted v high, hits_all cs v);
  within = λ v high. omega (arith, sum_by-take-le (λ n. n) counts (v + 1), summed.all, length-replicate {A = ℕ} total 0);
  starting = λ v high. omega (arith, summed.summed v (omega (arith, counted.each)));
  below = λ v p w low high earlier. absurd (omega arith);
  here = λ v w low high. ap (sum_by (at_place 0 w)) (none v high);
  above = λ v p w low high later. ap (sum_by (at_place p w)) (none v high);
}
  where
    none : (v : ℕ) → v < m → between (get_or ends v 0) (sum_by (λ n. n) (take (v + 1) counts)) (replicate total 0) ≡ []
    none v high = between-empty (replicate total 0) (get_or ends v 0) (sum_by (λ n. n) (take (v + 1) counts))
        (omega (arith, summed.summed v (omega (arith, counted.each, high))))

-- filled by all clauses
pub index_filled : (m : ℕ) (cs : List Literals) (starts places : List ℕ)
    → IsFilled m cs (length cs) 0 starts places → IsIndex m cs starts places
index_filled m cs starts places f = record {
  each = f.each;
  rises = λ v low high. omega (arith, begins v low (omega arith), ends v high, f.rises v low (omega arith));
  within = λ v low high. omega (arith, ends v high, f.within v (omega arith));
  lists = λ v low high p w.
      let v_high : v < m = omega arith in
      subst (λ n. sum_by (at_place p w) (between (get_or starts v 0) n places) ≡ hits v w (clause_at cs p)) (sym (ends v high))
      (⊎_elim
      (λ (before : p < length cs). f.below v p w low v_high before)
      (λ (past : length cs ≤ p).
      let no_clause : clause_at cs p ≡ [] = get_or_past cs p [] past in
      let no_hit : hits v w (clause_at cs p) ≡ 0 = ap (hits v w) no_clause in
      let sum_none : sum_by (at_place p w) (between (get_or starts v 0) (f.ends v) places) ≡ 0 =
      ⊎_elim
      (λ (own : p ≡ length cs).
      subst (λ q. sum_by (at_place q w) (between (get_or starts v 0) (f.ends v) places) ≡ 0) (sym own) (f.here v w low v_high))
      (λ (other : p ≢ length cs). f.above v p w low v_high (omega arith))
      (cases_eq p (length cs)) in
      sum_none ∙ sym no_hit)
      (cases_lt p (length cs)));
}
  where
    begins : (v : ℕ) → 0 < v → v < m → get_or starts v 0 ≡ f.ends (v - 1)
    begins v low high = omega (arith, f.starting v high, hits_all cs v, f.rises v low high)

    ends : (v : ℕ) → v + 1 < m → get_or starts (v + 1) 0 ≡ f.ends v
    ends v high =
        let one : v + 1 - 1 ≡ v = omega arith in
        subst (λ n. get_or starts (v + 1) 0 ≡ f.ends n) one (begins (v + 1) (omega arith) high)

-- and is the number of literals
pub counted_all : (m : ℕ) (cs : List Literals) (counts : List ℕ) → IsCounted m cs (length cs) 0 counts
    → sum_by (λ n. n) counts ≡ literal_count cs
counted_all m cs counts counted =
    let all : literal_count (take (length cs) cs) ≡ literal_count cs = ap literal_count (take_all (length cs) cs (omega arith)) in
    omega (arith, all, counted.total)
