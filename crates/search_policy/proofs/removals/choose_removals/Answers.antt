use Rattle.std.proofs.Common.{◌≡◌, ◌/◌, ℕ, List, Bool, length, map, take, sym, ap, ap₂, ◌∙◌, subst, refl}
use Rattle.std.proofs.lemmas.Fn.{always_returns_same}
use Rattle.std.proofs.lemmas.Result.{IfOk-weaker}
use Rattle.std.proofs.lemmas.List.Sorted.{IsNonDecreasingBy-from_sort}
use Rattle.search_policy.specs.Removals.{IsChosen}
use Rattle.search_policy.specs.Steps.Candidates.{AreCandidates}
use Rattle.search_policy.specs.declared.removals.Candidate.{Candidate}
use Rattle.search_policy.proofs.Choosing.{AreSorted, cost, place_of, chosen}
use Rattle.search_policy.proofs.removals.choose_removals.Goals as goal

-- src/removals.rt:20:1
pub returns : goal.returns
returns c =
    let computes = always_returns_same _ (λ a r. r ≡ cost a.0.now) _ (λ a r f' k. (k.met, refl)) in
    let sort : AreSorted c.in_ok-candidates.candidates.items c.sort_by_key.new.self.items = record {
      permutation = c.sort_by_key.ensures.permutation;
      sorted = IsNonDecreasingBy-from_sort cost c.sort_by_key.new.self.items (c.in_ok-sort_by_key.ensures.sorted cost computes);
      stable = c.sort_by_key.ensures.stable cost computes;
    } in
    let count : c.len-half.result ≡ length c.sort_by_key.new.self.items =
    c.len-half.ensures ∙ sym c.deref-2.ensures.len ∙ ap (λ (ds : List Candidate). length ds) c.deref-2.ensures.value in
    let half = ap₂ (λ (n : ℕ) (ds : List Candidate). map place_of (take (n / 2) ds)) count c.deref-2.ensures.value in
    IfOk-weaker c.clauses.result _ _ (λ rs is.
    subst (λ (items : List ℕ). IsChosen c.args.arena.now c.args.trail.now items) (sym (is ∙ half))
    (chosen c.args.arena.now c.args.trail.now c.in_ok-reasons.reasons.items c.in_ok-candidates.candidates.items
    c.sort_by_key.new.self.items c.in_ok-reasons.ensures
    (subst (λ (marks : List Bool). AreCandidates c.args.arena.now marks (length c.args.arena.now) c.in_ok-candidates.candidates.items)
    c.deref.ensures.value c.in_ok-candidates.ensures)
    sort)) c.clauses.ensures
