-- The candidates in the order in which they go.
use Rattle.std.proofs.Common.{◌≡◌, ◌≢◌, ℕ, zero, suc, ◌+◌, ◌-◌, ◌^◌, ◌/◌, ◌<◌, ◌≤◌, ◌&&◌, Bool, true, false, not, List}
use Rattle.std.proofs.Common.{length, map, take, All, AllPairs, Contains, slice_index_or, get_or, refl, sym, ap, ◌∙◌, subst, ⊎_elim, inl, inr, arith}
use Rattle.std.specs.List.{range_with_len, IsDistinct}
use Rattle.std.specs.List.Sorted.{IsPermutation, IsNonDecreasingBy, IsStableByKey, IsSortedByKey, IsStrictlyIncreasing}
use Rattle.std.specs.Ordering.{nat_cmp, is_lt}
use Rattle.std.proofs.lemmas.Bool.{and_parts, not-true, eq-eqb, ne_eqb, le-ltb, cases_Bool, cases_lt, true≢false}
use Rattle.std.proofs.Math.Dec.{eqb}
use Rattle.std.proofs.lemmas.Bool.Decides.{eqb_tells}
use Rattle.std.proofs.lemmas.List.{get_or-map, take-map, length-map}
use Rattle.std.proofs.lemmas.List.FromFn.{get_or-map-range_with_len, length-map-range_with_len}
use Rattle.std.proofs.lemmas.List.Elements.{Contains-get_or}
use Rattle.std.proofs.lemmas.List.Kept.{AllPairs-from_increasing, IsStrictlyIncreasing-filter}
use Rattle.std.proofs.lemmas.List.Sorted.{ties_still_rise, All-permutation, Contains-permutation, IsPermutation-map}
use Rattle.std.proofs.lemmas.Map.Keys.{IsDistinct-IsPermutation, IsDistinct-from_apart, apart_from_distinct}
use Rattle.cnf_core.proofs.Lists.{Contains-filter, kept_of_Contains-filter}
use Rattle.clause_arena.specs.Entries.{Entries, entry_at, len_of}
use Rattle.trail_core.specs.Trails.{TrailState}
use Rattle.search_policy.specs.Removals.{IsReason, IsRemovable, GoesBefore, IsChosen}
use Rattle.search_policy.specs.Steps.Candidates.{AreReasons, may_go, may_go_upto, AreCandidates}
use Rattle.search_policy.specs.declared.removals.Candidate.{Candidate}

abbrev pub cost : Candidate → ℕ
cost c = 2 ^ 64 - 1 - c.len

abbrev pub place_of : Candidate → ℕ
place_of c = c.clause

-- what the sort gives
pub record AreSorted (cs ds : List Candidate) : Type 0 where
  pub permutation : IsPermutation cs ds
  pub sorted : IsNonDecreasingBy cost ds
  pub stable : IsStableByKey cost nat_cmp cs ds

-- the places

places_rise : (a : Entries) (marks : List Bool) (n : ℕ) → IsStrictlyIncreasing (may_go_upto a marks n)
places_rise a marks n =
    IsStrictlyIncreasing-filter (may_go a marks) (map (λ r. r) (range_with_len 0 n)) (λ k fits.
    let count = length-map-range_with_len (λ (r : ℕ). r) 0 n in
    let here = get_or-map-range_with_len (λ (r : ℕ). r) 0 n k k 0 (omega (arith, fits, count)) (omega arith) in
    let next = get_or-map-range_with_len (λ (r : ℕ). r) 0 n (k + 1) (k + 1) 0 (omega (arith, fits, count)) (omega arith) in
    omega (arith, here, next))

may_go_of_place : (a : Entries) (marks : List Bool) (n r : ℕ) → Contains (may_go_upto a marks n) r
    → (r < n) × (may_go a marks r ≡ true)
may_go_of_place a marks n r member =
    let kept = kept_of_Contains-filter (may_go a marks) (map (λ r. r) (range_with_len 0 n)) r member in
    let count = length-map-range_with_len (λ (r : ℕ). r) 0 n in
    let k = kept.member.0 in
    let at = get_or-map-range_with_len (λ (r : ℕ). r) 0 n k k r (omega (arith, kept.member.1, count)) (omega arith) in
    (omega (arith, at, kept.member.2, kept.member.1, count), kept.passes)

place_of_may_go : (a : Entries) (marks : List Bool) (n r : ℕ) → r < n → may_go a marks r ≡ true
    → Contains (may_go_upto a marks n) r
place_of_may_go a marks n r below goes =
    let count = length-map-range_with_len (λ (r : ℕ). r) 0 n in
    Contains-filter (may_go a marks) (map (λ r. r) (range_with_len 0 n)) r
    (r, omega (arith, below, count), get_or-map-range_with_len (λ (r : ℕ). r) 0 n r r r below (omega arith)) goes

-- a clause that may go is one that the specification lets go, and the other way round

goes_of_removable : (a : Entries) (t : TrailState) (marks : List Bool) (r : ℕ) → AreReasons a t (length t.entries) marks
    → IsRemovable a t r → (r < length a) × (may_go a marks r ≡ true)
goes_of_removable a t marks r reasons removable =
    let unmarked : slice_index_or marks r false ≡ false =
    elim (cases_Bool (slice_index_or marks r false)) [
      | inl marked ↦ absurd (removable.no_reason (reasons.marked r removable.live.present marked))
      | inr unmarked ↦ unmarked
    ] in
    (removable.live.present, rw (removable.live.live, removable.learnt, unmarked) refl)

removable_of_goes : (a : Entries) (t : TrailState) (marks : List Bool) (r : ℕ) → AreReasons a t (length t.entries) marks
    → r < length a → may_go a marks r ≡ true → IsRemovable a t r
removable_of_goes a t marks r reasons present goes =
    let live = and_parts (entry_at a r).live ((entry_at a r).learnt && not (slice_index_or marks r false)) goes in
    let learnt = and_parts (entry_at a r).learnt (not (slice_index_or marks r false)) live.1 in
    let unmarked = not-true (slice_index_or marks r false) learnt.1 in
    record {
      live = record { present = present; live = live.0 };
      learnt = learnt.0;
      no_reason = λ (reason : IsReason t r). true≢false
          (sym (reasons.all r reason.place present reason.within reason.reason) ∙ unmarked);
    }

-- the order

eqb_flips : (x y : ℕ) → eqb x y ≡ eqb y x
eqb_flips x y = ⊎_elim
    (λ same. same.0 ∙ sym (eq-eqb y x (sym same.1)))
    (λ other. other.0 ∙ sym (ne_eqb y x (λ (is : y ≡ x). other.1 (sym is))))
    (eqb_tells x y)

apart : (a : Entries) (marks : List Bool) (n : ℕ) (cs ds : List Candidate) → AreCandidates a marks n cs → IsPermutation cs ds
    → IsDistinct eqb (map place_of ds)
apart a marks n cs ds candidates moved =
    let rise = places_rise a marks n in
    let distinct : IsDistinct eqb (may_go_upto a marks n) =
    IsDistinct-from_apart eqb (may_go_upto a marks n) (λ i j d before fits.
    ne_eqb (get_or (may_go_upto a marks n) i d) (get_or (may_go_upto a marks n) j d)
    (λ same. absurd (omega (arith, same, AllPairs-from_increasing (may_go_upto a marks n) rise i j d before fits)))) in
    IsDistinct-IsPermutation eqb eqb_flips (map place_of cs) (map place_of ds) (IsPermutation-map place_of cs ds moved)
    (subst (λ (ks : List ℕ). IsDistinct eqb ks) (sym candidates.clauses) distinct)

not_less : (x y : ℕ) → y < x → is_lt (nat_cmp x y) ≡ false
not_less x y above = rw (le-ltb x y (omega (arith, above)), ne_eqb x y (λ same. absurd (omega (arith, same, above)))) refl

in_order : (a : Entries) (marks : List Bool) (n : ℕ) (cs : List Candidate) → AreCandidates a marks n cs
    → IsSortedByKey place_of nat_cmp cs
in_order a marks n cs candidates k d first fits =
    let rise = places_rise a marks n in
    let same : IsStrictlyIncreasing (map place_of cs) =
    subst (λ (ks : List ℕ). IsStrictlyIncreasing ks) (sym candidates.clauses) rise in
    let count = length-map cs place_of in
    let step = same k (omega (arith, fits, count)) in
    let here = get_or-map place_of cs k d 0 (omega (arith, fits)) in
    let next = get_or-map place_of cs (k + 1) d 0 fits in
    not_less (place_of (get_or cs (k + 1) d)) (place_of (get_or cs k d)) (omega (arith, step, here, next))

ties_rise : (cs ds : List Candidate) → AreSorted cs ds → IsSortedByKey place_of nat_cmp cs → (i gap : ℕ) (d : Candidate)
    → i + gap < length ds → cost (get_or ds i d) ≡ cost (get_or ds (i + gap) d)
    → place_of (get_or ds i d) ≤ place_of (get_or ds (i + gap) d)
ties_rise cs ds sort order i zero d fits same =
    let here : i + 0 ≡ i = omega arith in
    rw here (omega arith)
ties_rise cs ds sort order i (suc gap) d fits same =
    let next : i + suc gap ≡ i + gap + 1 = omega arith in
    let low = sort.sorted i (i + gap) d (omega arith) (omega (arith, fits)) in
    let high = sort.sorted (i + gap) (i + gap + 1) d (omega arith) (omega (arith, fits)) in
    let ends = same ∙ ap (λ (k : ℕ). cost (get_or ds k d)) next in
    let before = ties_rise cs ds sort order i gap d (omega (arith, fits)) (omega (arith, low, high, ends)) in
    let step = ties_still_rise place_of cost cs ds order sort.stable (i + gap) d (omega (arith, fits))
    (omega (arith, low, high, ends)) in
    rw next (omega (arith, before, step))

goes_before : (a : Entries) (marks : List Bool) (n : ℕ) (cs ds : List Candidate) → AreCandidates a marks n cs → AreSorted cs ds
    → AllPairs (GoesBefore a) (map place_of ds)
goes_before a marks n cs ds candidates sort i j e before fits =
    let none : Candidate = record { clause = 0; len = 0 } in
    let count = length-map ds place_of in
    let first = get_or-map place_of ds i none e (omega (arith, before, fits, count)) in
    let second = get_or-map place_of ds j none e (omega (arith, fits, count)) in
    let x = get_or ds i none in
    let y = get_or ds j none in
    let lengths = All-permutation (λ (c : Candidate). (c.len ≡ len_of a c.clause) × (c.len < 2 ^ 64)) cs ds sort.permutation
    candidates.lengths in
    let of_x = lengths i none (omega (arith, before, fits, count)) in
    let of_y = lengths j none (omega (arith, fits, count)) in
    let costs = sort.sorted i j none (omega (arith, before)) (omega (arith, fits, count)) in
    subst (λ (r : ℕ). GoesBefore a r (get_or (map place_of ds) j e)) (sym first)
    (subst (λ (s : ℕ). GoesBefore a (place_of x) s) (sym second)
    (⊎_elim
    (λ (shorter : y.len < x.len). inl (omega (arith, shorter, of_x.0, of_y.0)))
    (λ (not_shorter : x.len ≤ y.len).
    let gap : i + (j - i) ≡ j = omega (arith, before) in
    let same : x.len ≡ y.len = omega (arith, costs, not_shorter, of_x.1, of_y.1) in
    let ends : cost x ≡ cost (get_or ds (i + (j - i)) none) =
    ap (λ (len : ℕ). 2 ^ 64 - 1 - len) same ∙ ap (λ (k : ℕ). cost (get_or ds k none)) (sym gap) in
    let rises = ties_rise cs ds sort (in_order a marks n cs candidates) i (j - i) none
    (omega (arith, gap, fits, count)) ends in
    let rises_to : place_of x ≤ place_of y = subst (λ (k : ℕ). place_of x ≤ place_of (get_or ds k none)) gap rises in
    let differ = apart_from_distinct eqb (map place_of ds) i j e (apart a marks n cs ds candidates sort.permutation)
    before fits in
    let other : place_of x ≢ place_of y =
    λ is. true≢false (sym (eq-eqb (get_or (map place_of ds) i e) (get_or (map place_of ds) j e)
    (first ∙ is ∙ sym second)) ∙ differ) in
    inr (sym of_x.0 ∙ same ∙ of_y.0, omega (arith, rises_to, other)))
    (cases_lt y.len x.len)))

pub chosen : (a : Entries) (t : TrailState) (marks : List Bool) (cs ds : List Candidate) → AreReasons a t (length t.entries) marks
    → AreCandidates a marks (length a) cs → AreSorted cs ds → IsChosen a t (map place_of (take (length ds / 2) ds))
chosen a t marks cs ds reasons candidates sort =
    let moved = IsPermutation-map place_of cs ds sort.permutation in
    record {
      ranked = map place_of ds;
      is_ranked = record {
        removable = All-permutation (IsRemovable a t) (map place_of cs) (map place_of ds) moved
            (subst (λ (ks : List ℕ). All (IsRemovable a t) ks) (sym candidates.clauses) (λ k d fits.
            let member = Contains-get_or (may_go_upto a marks (length a)) k d fits in
            let goes = may_go_of_place a marks (length a) (get_or (may_go_upto a marks (length a)) k d) member in
            removable_of_goes a t marks (get_or (may_go_upto a marks (length a)) k d) reasons goes.0 goes.1));
        all = λ r removable.
            let goes = goes_of_removable a t marks r reasons removable in
            Contains-permutation (map place_of cs) (map place_of ds) r moved
            (subst (λ (ks : List ℕ). Contains ks r) (sym candidates.clauses)
            (place_of_may_go a marks (length a) r goes.0 goes.1));
        order = goes_before a marks (length a) cs ds candidates sort;
      };
      half = sym (take-map place_of (length ds / 2) ds)
          ∙ ap (λ (k : ℕ). take (k / 2) (map place_of ds)) (sym (length-map ds place_of));
    }
