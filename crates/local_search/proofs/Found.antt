-- What a search found that left no clause broken.
use Rattle.std.proofs.Common.{◌≡◌, ◌≢◌, ℕ, ◌+◌, ◌<◌, Bool, true, false, if◌then◌else◌, IsTrue, [], ◌∷◌, length, take, get_or, refl, sym, ap, ◌∙◌, subst, arith}
use Rattle.std.proofs.lemmas.Bool.{or_left, or_right}
use Rattle.std.proofs.lemmas.List.{get_or_default}
use Rattle.std.proofs.lemmas.List.Sums.{sum_by-cons}
use Rattle.std.proofs.lemmas.List.Elements.{All-get_or, All-more, All-take}
use Rattle.cnf_core.specs.Literals.{Literal, Literals, Assignment, value_of, is_true, clause_true, IsWithin, AreWithin}
use Rattle.cnf_core.specs.Formulas.{IsModel}
use Rattle.cnf_core.proofs.Lists.{list_all_of_members}
use Rattle.cnf_core.proofs.Truth.{is_true_same}
use Rattle.local_search.specs.Cleaned.{Tabled, clause_at}
use Rattle.local_search.specs.Tallies.{tally_at, true_count}
use Rattle.local_search.specs.Steps.States.{IsState, IsHeld, HoldsToo}
use Rattle.local_search.specs.declared.search.LocalSearch.{LocalSearch}

-- a clause with a true literal is true
some_true : (a : Assignment) (c : Literals) → true_count a c ≢ 0 → IsTrue (clause_true a c)
some_true a [] some = absurd (some refl)
some_true a (l ∷ c) some = by_value (is_true a l) refl (some_true a c)
  where
    by_value : (b : Bool) → is_true a l ≡ b → (true_count a c ≢ 0 → IsTrue (clause_true a c)) → IsTrue (clause_true a (l ∷ c))
    by_value true holds rest = or_left (is_true a l) (clause_true a c) holds
    by_value false fails rest = or_right (is_true a l) (clause_true a c)
        (rest (λ none. some
        (sum_by-cons (λ (k : Literal). if is_true a k then 1 else 0) l c
        ∙ ap (λ (n : ℕ). (if is_true a l then 1 else 0) + n) none
        ∙ ap (λ (b : Bool). (if b then 1 else 0) + 0) fails)))

-- where no clause is broken, the values are a model
pub model_found : (t : Tabled) (s : LocalSearch) → IsState t s
    → ((p : ℕ) → p < length s.counts.tallies → (tally_at s.counts.tallies p).count ≢ 0) → IsModel t.formula s.values
model_found t s state some = record {
  values = state.sizes.values;
  satisfied = sym (state.sizes.tabled.cleaned.same s.values)
      ∙ list_all_of_members (clause_true s.values) t.clauses
      (λ c here.
      let at : clause_at t.clauses here.0 ≡ c = get_or_default t.clauses here.0 [] c here.1 ∙ here.2 in
      subst (λ (d : Literals). IsTrue (clause_true s.values d)) at
      (some_true s.values (clause_at t.clauses here.0)
      (λ none. some here.0 (omega (arith, here.1, state.tallies.each)) (state.tallies.count here.0 here.1 ∙ none))));
}

-- one literal more is held
pub held_more : (n : ℕ) (start fixed : Assignment) (lits : Literals) (i : ℕ) (l : Literal) (held values held' values' : Assignment)
    → AreWithin n lits → IsHeld n start fixed (take i lits) held values → i < length lits → l ≡ get_or lits i l
    → HoldsToo l held values held' values' → length values' ≡ length values → length held' ≡ length held
    → IsHeld n start fixed (take (i + 1) lits) held' values'
held_more n start fixed lits i l held values held' values' within h below is too each marks = record {
  each = each ∙ h.each;
  marks = marks ∙ h.marks;
  still = λ v low high is_fixed. too.still v low (omega (arith, high, h.marks)) (h.still v low high is_fixed);
  begins = λ v low high is_fixed. too.kept v low (omega (arith, high, h.marks)) (h.still v low high is_fixed) ∙ h.begins v low high is_fixed;
  frozen = All-more (λ (k : Literal). IsTrue (value_of held' k.var)) lits i l below
      (λ k d before.
      let marked = h.frozen k d before in
      let inside = within_part k d before in
      too.still (get_or (take i lits) k d).var inside.low (omega (arith, inside.high, h.marks)) marked)
      (subst (λ (k : Literal). IsTrue (value_of held' k.var)) is too.marked);
  fails = All-more (λ (k : Literal). is_true values' k ≡ false) lits i l below
      (λ k d before.
      let marked = h.frozen k d before in
      let inside = within_part k d before in
      is_true_same values values' (get_or (take i lits) k d)
      (too.kept (get_or (take i lits) k d).var inside.low (omega (arith, inside.high, h.marks)) marked)
      ∙ h.fails k d before)
      (subst (λ (k : Literal). is_true values' k ≡ false) is too.fails);
}
  where
    within_part : (k : ℕ) (d : Literal) → k < length (take i lits) → IsWithin n (get_or (take i lits) k d)
    within_part k d before = All-get_or (IsWithin n) (take i lits) k d before (All-take (IsWithin n) i lits within)
