-- Places that change their spots, and tallies that change.
use Rattle.std.proofs.Common.{◌≡◌, ◌≢◌, ℕ, ◌^◌, ◌<◌, ◌≤◌, ◌==◌, false, IsTrue, List, length, take, set, get_or, sym, ap, ◌∙◌, subst, ⊎_elim, length-set, get_or-set_same, get_or-set_other, arith}
use Rattle.std.proofs.lemmas.Bool.{cases_eq, cases_lt}
use Rattle.std.proofs.lemmas.List.{get_or_default, get_or_past, get_or-take, length-take-le}
use Rattle.std.proofs.lemmas.List.Sums.{sum_by-set, sum_by-le}
use Rattle.std.proofs.lemmas.List.Elements.{All-from_get_or}
use Rattle.local_search.specs.Tallies.{no_tally, tally_at, rests_on, breaks_of, ListsBroken}
use Rattle.local_search.specs.Steps.Spots.{IsArranged, Settles}
use Rattle.local_search.specs.Steps.Counted.{AddsBreak, IsCounts}
use Rattle.local_search.specs.declared.counts.Tally.{Tally}

-- each clause counts once at most
rests_low : (v : ℕ) (t : Tally) → rests_on v t ≤ 1
rests_low v t = grind arith

pub breaks_low : (tallies : List Tally) (v : ℕ) → breaks_of tallies v ≤ length tallies
breaks_low tallies v =
    let most = sum_by-le (rests_on v) 1 tallies (λ k d below. rests_low v (get_or tallies k d)) in omega (arith, most)

-- the numbers stay low
pub breaks_fit : (tallies : List Tally) (order spots : List ℕ) (broken : ℕ) (breaks less : List ℕ) (t : Tally)
    → IsCounts tallies order spots broken breaks → AddsBreak t less breaks → (v : ℕ) → get_or less v 0 < 2 ^ 31
breaks_fit tallies order spots broken breaks less t c lost v =
    ⊎_elim
    (λ (within : v < length less).
    omega (arith, lost.sums v within, c.rests v (omega (arith, lost.each)), breaks_low tallies v, c.limit))
    (λ (past : length less ≤ v). let zero = get_or_past less v 0 past in omega arith)
    (cases_lt v (length less))

-- one tally is changed
is_zero : (n : ℕ) → n ≡ 0 → IsTrue (n == 0)
is_zero n none = ap (λ m. m == 0) none

not_zero : (n : ℕ) → n ≢ 0 → (n == 0) ≡ false
not_zero n some = grind arith

pub counts_changed : (tallies : List Tally) (order spots : List ℕ) (broken : ℕ) (breaks : List ℕ) (place : ℕ) (old new : Tally)
    (order' spots' : List ℕ) (broken' : ℕ) (less breaks' : List ℕ)
    → IsCounts tallies order spots broken breaks → place < length tallies → old ≡ get_or tallies place old
    → AddsBreak old less breaks → AddsBreak new less breaks' → IsArranged (length tallies) order' spots' → broken' ≤ length tallies
    → Settles (length tallies) place (new.count == 0) broken spots broken' spots'
    → IsCounts (set tallies place new) order' spots' broken' breaks'
counts_changed tallies order spots broken breaks place old new order' spots' broken' less breaks' c below old_is lost gained arranged
    low settled = record {
      limit = omega (arith, long, c.limit);
      variables = omega (arith, lost.each, gained.each, c.variables);
      arranged = subst (λ n. IsArranged n order' spots') (sym long) arranged;
      low = omega (arith, long, low);
      first = λ p within.
          ⊎_elim
          (λ (is : p ≡ place) (none : (tally_at (set tallies place new) p).count ≡ 0).
          subst (λ (q : ℕ). get_or spots' q 0 < broken') (sym is) (settled.own_first (is_zero new.count (sym (ap (λ (t : Tally). t.count) (at_own p is)) ∙ none))))
          (λ (other : p ≢ place) (none : (tally_at (set tallies place new) p).count ≡ 0).
          settled.first p (omega (arith, long, within)) other
          (c.first p (omega (arith, long, within)) (sym (ap (λ (t : Tally). t.count) (at_other p other)) ∙ none)))
          (cases_eq p place);
      later = λ p within.
          ⊎_elim
          (λ (is : p ≡ place) (some : (tally_at (set tallies place new) p).count ≢ 0).
          subst (λ (q : ℕ). broken' ≤ get_or spots' q 0) (sym is)
          (settled.own_later (not_zero new.count (λ none. some (ap (λ (t : Tally). t.count) (at_own p is) ∙ none)))))
          (λ (other : p ≢ place) (some : (tally_at (set tallies place new) p).count ≢ 0).
          settled.later p (omega (arith, long, within)) other
          (c.later p (omega (arith, long, within)) (λ none. some (ap (λ (t : Tally). t.count) (at_other p other) ∙ none))))
          (cases_eq p place);
      rests = λ v within.
          let same : rests_on v old ≡ rests_on v (get_or tallies place old) = ap (rests_on v) old_is in
          omega (
            arith,
            sum_by-set (rests_on v) tallies place new old below,
            same,
            lost.sums v (omega (arith, gained.each, within)),
            gained.sums v (omega (arith, gained.each, within)),
            c.rests v (omega (arith, lost.each, gained.each, within)),
          );
    }
  where
    long : length (set tallies place new) ≡ length tallies
    long = length-set tallies place new

    at_own : (p : ℕ) → p ≡ place → tally_at (set tallies place new) p ≡ new
    at_own p is = ap (λ (q : ℕ). get_or (set tallies place new) q no_tally) is ∙ get_or-set_same tallies place new no_tally below

    at_other : (p : ℕ) → p ≢ place → tally_at (set tallies place new) p ≡ tally_at tallies p
    at_other p other = get_or-set_other tallies place p new no_tally other

-- the first places are the broken ones
pub lists_broken : (tallies : List Tally) (order spots : List ℕ) (broken : ℕ) (breaks : List ℕ)
    → IsCounts tallies order spots broken breaks → ListsBroken tallies (take broken order)
lists_broken tallies order spots broken breaks c = record {
  sound = All-from_get_or (λ (p : ℕ). (p < length tallies) × ((tally_at tallies p).count ≡ 0)) (take broken order) 0
      (λ k within. subst (λ (p : ℕ). (p < length tallies) × ((tally_at tallies p).count ≡ 0)) (sym (at k (omega (arith, long, within))))
      (c.arranged.place k (omega (arith, long, within, c.low)), none k (omega (arith, long, within))));
  whole = λ p within is_none.
      let below : get_or spots p 0 < broken = c.first p within is_none in (
        get_or spots p 0,
        omega (arith, long, below),
        get_or-take broken order (get_or spots p 0) p below
            ∙ get_or_default order (get_or spots p 0) p 0 (omega (arith, c.arranged.orders, c.low, below)) ∙ c.arranged.there p within,
      );
  once = λ i j d before within same.
      let i_low : i < broken = omega (arith, long, before, within) in
      let j_low : j < broken = omega (arith, long, within) in
      let there : get_or order i 0 ≡ get_or order j 0 = sym (at_any i d i_low) ∙ same ∙ at_any j d j_low in
      let spots_same : i ≡ j =
      sym (c.arranged.back i (omega (arith, c.low, i_low))) ∙ ap (λ (p : ℕ). get_or spots p 0) there
      ∙ c.arranged.back j (omega (arith, c.low, j_low)) in
      omega (arith, before, spots_same);
}
  where
    long : length (take broken order) ≡ broken
    long = length-take-le broken order (omega (arith, c.low, c.arranged.orders))

    at_any : (k d : ℕ) → k < broken → get_or (take broken order) k d ≡ get_or order k 0
    at_any k d below = get_or-take broken order k d below ∙ get_or_default order k d 0 (omega (arith, c.arranged.orders, c.low, below))

    at : (k : ℕ) → k < broken → get_or (take broken order) k 0 ≡ get_or order k 0
    at k below = at_any k 0 below

    none : (k : ℕ) → k < broken → (tally_at tallies (get_or order k 0)).count ≡ 0
    none k below =
        ⊎_elim
        (λ (is : (tally_at tallies (get_or order k 0)).count ≡ 0). is)
        (λ (some : (tally_at tallies (get_or order k 0)).count ≢ 0).
        let high = c.later (get_or order k 0) (c.arranged.place k (omega (arith, c.low, below))) some in
        let spot = c.arranged.back k (omega (arith, c.low, below)) in
        absurd (omega (arith, high, spot, below)))
        (cases_eq (tally_at tallies (get_or order k 0)).count 0)
