-- A whole flip of a search.
use Rattle.std.proofs.Common.{◌≡◌, ℕ, ◌-◌, ◌^◌, ◌<◌, ◌≤◌, Bool, true, false, not, if◌then◌else◌, IsTrue, List, [], length, All, get_or, refl, sym, ap, ◌∙◌, subst, ⊎_elim, length-set, arith}
use Rattle.std.specs.List.{sum_by}
use Rattle.std.proofs.lemmas.Bool.{cases_lt, both_ways}
use Rattle.std.proofs.lemmas.List.{get_or_past}
use Rattle.std.proofs.lemmas.List.Sums.{get_or-le-sum_by}
use Rattle.std.proofs.lemmas.List.Elements.{All-get_or, All-from_get_or}
use Rattle.cnf_core.specs.Literals.{Literal, Literals, Assignment, negated, code_of, value_of, is_true, AreWithin}
use Rattle.cnf_core.specs.Formulas.{true_literal}
use Rattle.cnf_core.proofs.Truth.{literal_of, value_of-with_value_other}
use Rattle.model_check.specs.Flips.{flipped}
use Rattle.local_search.specs.Cleaned.{Tabled, IsTabled, clause_at}
use Rattle.local_search.specs.Tallies.{tally_at, true_count, true_sum, AreTallies}
use Rattle.local_search.specs.Steps.Listed.{hits, at_place, ListsPlaces}
use Rattle.local_search.specs.Steps.States.{IsState, Keeps, IsOnward, IsFree, AddsPlaces, CanLower, CanRaise}
use Rattle.local_search.specs.declared.counts.Tally.{Tally}
use Rattle.local_search.specs.declared.search.LocalSearch.{LocalSearch}
use Rattle.local_search.proofs.Flipped.{weighed_all, weighed_low, hits_true, hits_low}

-- a listed place is one of a clause
pub listed_inside : (cs : List Literals) (code : ℕ) (places : List ℕ) → ListsPlaces cs code places → All (λ p. p < length cs) places
listed_inside cs code places lists = All-from_get_or (λ (p : ℕ). p < length cs) places 0
    (λ k below.
    let one : 1 ≤ hits code 1 (clause_at cs (get_or places k 0)) =
    omega (arith, get_or-le-sum_by (at_place (get_or places k 0) 1) places k 0 below, at_own (get_or places k 0), lists (get_or places k 0) 1) in
    ⊎_elim
    (λ (inside : get_or places k 0 < length cs). inside)
    (λ (past : length cs ≤ get_or places k 0).
    let none : hits code 1 (clause_at cs (get_or places k 0)) ≡ 0 = ap (hits code 1) (get_or_past cs (get_or places k 0) [] past) in
    absurd (omega (arith, one, none)))
    (cases_lt (get_or places k 0) (length cs)))
  where
    at_own : (p : ℕ) → at_place p 1 p ≡ 1
    at_own p = grind arith

-- a clause's length and its variables are within the limits
clause_within : (t : Tabled) (p : ℕ) → IsTabled t → p < length t.clauses → AreWithin t.formula.vars (clause_at t.clauses p)
clause_within t p tabled below = All-get_or (AreWithin t.formula.vars) t.clauses p [] below tabled.cleaned.within

clause_short : (t : Tabled) (p : ℕ) → IsTabled t → p < length t.clauses → length (clause_at t.clauses p) ≤ 2 ^ 23
clause_short t p tabled below =
    let part = get_or-le-sum_by length t.clauses p [] below in
    omega (arith, part, tabled.cleaned.shorter, tabled.limits.literals_limit)

module _ (t : Tabled) (s : LocalSearch) (var : ℕ) (lost : Literal) (state : IsState t s) (free : IsFree t.formula.vars s.held var)
    (lost_is : lost ≡ true_literal s.values var) where
  high : lost.var ≤ length s.values
  high = let is : lost.var ≡ var = ap (λ (l : Literal). l.var) lost_is in omega (arith, is, free.high, state.sizes.values)

  low : 0 < lost.var
  low = let is : lost.var ≡ var = ap (λ (l : Literal). l.var) lost_is in omega (arith, is, free.low)

  var_is : lost.var ≡ var
  var_is = ap (λ (l : Literal). l.var) lost_is

  holds : IsTrue (is_true s.values lost)
  holds = subst (λ (l : Literal). IsTrue (is_true s.values l)) (sym lost_is) (by_value (value_of s.values var))
    where
      by_value : (b : Bool) → (if b then b else not b) ≡ true
      by_value true = refl
      by_value false = refl

  within_there : (p : ℕ) → p < length t.clauses → AreWithin (length s.values) (clause_at t.clauses p)
  within_there p below = subst (λ n. AreWithin n (clause_at t.clauses p)) (sym state.sizes.values) (clause_within t p state.sizes.tabled below)

  pub can_lower : (places : List ℕ) → ListsPlaces t.clauses (code_of lost) places → CanLower var places s.counts.tallies
  can_lower places lists = record {
    inside = subst (λ n. All (λ p. p < n) places) (sym state.tallies.each) (listed_inside t.clauses (code_of lost) places lists);
    count = λ p below.
        let there = hits_true s.values (λ _. 1) lost (clause_at t.clauses p) holds in
        omega (arith, lists p 1, there, state.tallies.count p (omega (arith, below, state.tallies.each)));
    sum = λ p below.
        let there = hits_true s.values (λ v. v) lost (clause_at t.clauses p) holds in
        let listed : sum_by (at_place p lost.var) places ≡ hits (code_of lost) lost.var (clause_at t.clauses p) = lists p lost.var in
        subst (λ v. sum_by (at_place p v) places ≤ (tally_at s.counts.tallies p).sum) var_is
        (omega (arith, listed, there, state.tallies.sum p (omega (arith, below, state.tallies.each))));
  }

  pub can_raise : (places others : List ℕ) (lower : List Tally) → ListsPlaces t.clauses (code_of lost) places
      → ListsPlaces t.clauses (code_of (negated lost)) others → AddsPlaces var places lower s.counts.tallies → CanRaise var others lower
  can_raise places others lower lists listed lowered = record {
    inside = subst (λ n. All (λ p. p < n) others) (sym (lowered.each ∙ state.tallies.each))
        (listed_inside t.clauses (code_of (negated lost)) others listed);
    count = λ p below.
        let here : p < length t.clauses = omega (arith, below, lowered.each, state.tallies.each) in
        let few = weighed_low s.values (λ _. 1) 1 (length s.values) (clause_at t.clauses p) (λ v _. one_low v) (within_there p here) in
        let more = hits_low (code_of (negated lost)) 1 1 (clause_at t.clauses p) (omega arith) in
        omega (arith, few, more, clause_short t p state.sizes.tabled here, listed p 1, lowered.count p below, state.tallies.count p here);
    sum = λ p below.
        let here : p < length t.clauses = omega (arith, below, lowered.each, state.tallies.each) in
        let few = weighed_low s.values (λ v. v) (2 ^ 20) (length s.values) (clause_at t.clauses p)
        (λ v inside. omega (arith, inside, state.sizes.values, state.sizes.tabled.limits.vars_limit)) (within_there p here) in
        let more = hits_low (code_of (negated lost)) var (2 ^ 20) (clause_at t.clauses p)
        (omega (arith, free.high, state.sizes.tabled.limits.vars_limit)) in
        omega (arith, few, more, clause_short t p state.sizes.tabled here, listed p var, lowered.sum p below, state.tallies.sum p here);
  }
    where
      one_low : (v : ℕ) → 1 ≤ 1
      one_low v = omega arith

  -- the tallies are those of the flipped values
  pub tallies_flipped : (places others : List ℕ) (lower raised : List Tally) → ListsPlaces t.clauses (code_of lost) places
      → ListsPlaces t.clauses (code_of (negated lost)) others → AddsPlaces var places lower s.counts.tallies
      → AddsPlaces var others lower raised → AreTallies t.clauses (flipped s.values var) raised
  tallies_flipped places others lower raised lists listed lowered more = record {
    each = sym more.each ∙ lowered.each ∙ state.tallies.each;
    count = λ p here.
        let whole = weighed_all s.values (λ _. 1) lost (clause_at t.clauses p) low high holds (within_there p here) in
        let there : true_count (flipped s.values lost.var) (clause_at t.clauses p) ≡ (tally_at raised p).count =
        omega (arith, whole, lists p 1, listed p 1, lowered.count p (in_lower p here), more.count p (in_lower p here), state.tallies.count p here) in
        sym (subst (λ v. true_count (flipped s.values v) (clause_at t.clauses p) ≡ (tally_at raised p).count) var_is there);
    sum = λ p here.
        let whole = weighed_all s.values (λ v. v) lost (clause_at t.clauses p) low high holds (within_there p here) in
        let own : sum_by (at_place p lost.var) places ≡ sum_by (at_place p var) places = ap (λ v. sum_by (at_place p v) places) var_is in
        let other : sum_by (at_place p lost.var) others ≡ sum_by (at_place p var) others = ap (λ v. sum_by (at_place p v) others) var_is in
        let there : true_sum (flipped s.values lost.var) (clause_at t.clauses p) ≡ (tally_at raised p).sum =
        omega (
          arith,
          whole,
          lists p lost.var,
          listed p lost.var,
          own,
          other,
          lowered.sum p (in_lower p here),
          more.sum p (in_lower p here),
          state.tallies.sum p here,
        ) in
        sym (subst (λ v. true_sum (flipped s.values v) (clause_at t.clauses p) ≡ (tally_at raised p).sum) var_is there);
  }
    where
      in_lower : (p : ℕ) → p < length t.clauses → p < length lower
      in_lower p here = omega (arith, here, lowered.each, state.tallies.each)

  -- a held variable is another one
  pub keeps_flipped : Keeps s.held s.values (flipped s.values var)
  keeps_flipped = record {
    each = length-set s.values (var - 1) (not (value_of s.values var));
    kept = λ v low_v high_v held.
        value_of-with_value_other s.values var v (not (value_of s.values var)) free.low low_v
        (λ same. both_ways (value_of s.held var) free.free (subst (λ (w : ℕ). IsTrue (value_of s.held w)) same held));
  }

  -- the whole search
  pub onward_flipped : (places others : List ℕ) (lower : List Tally) → ListsPlaces t.clauses (code_of lost) places
      → ListsPlaces t.clauses (code_of (negated lost)) others → AddsPlaces var places lower s.counts.tallies
      → (s' : LocalSearch) → AddsPlaces var others lower s'.counts.tallies → s'.values ≡ flipped s.values var → s'.held ≡ s.held
      → s'.counts.vars ≡ s.counts.vars → IsOnward t s s'
  onward_flipped places others lower lists listed lowered s' more values held vars = record {
    state = record {
      sizes = record {
        tabled = state.sizes.tabled;
        values = ap length values ∙ length-set s.values (var - 1) (not (value_of s.values var)) ∙ state.sizes.values;
        held = ap length held ∙ state.sizes.held;
        vars = vars ∙ state.sizes.vars;
        clauses = sym more.each ∙ lowered.each ∙ state.sizes.clauses;
      };
      tallies = subst (λ (a : Assignment). AreTallies t.clauses a s'.counts.tallies) (sym values)
          (tallies_flipped places others lower s'.counts.tallies lists listed lowered more);
    };
    held = held;
    kept = subst (λ (a : Assignment). Keeps s.held s.values a) (sym values) keeps_flipped;
  }

-- the literal that is made is the true one, and the other one its negation
pub lost_is : (a : Assignment) (v : ℕ) (value : Bool) (lost : Literal) → value ≡ value_of a v
    → lost ≡ record { var = v; positive = value } → lost ≡ true_literal a v
lost_is a v value lost value_is made = made ∙ ap (literal_of v) value_is

pub listed_other : (cs : List Literals) (lost other : Literal) (places : List ℕ) → other ≡ negated lost
    → ListsPlaces cs (code_of other) places → ListsPlaces cs (code_of (negated lost)) places
listed_other cs lost other places is lists = subst (λ (l : Literal). ListsPlaces cs (code_of l) places) is lists
