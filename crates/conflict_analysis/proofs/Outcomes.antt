-- What the walk gives is a clause to learn.
use Rattle.std.proofs.Common.{◌≡◌, ◌≢◌, ℕ, ◌<◌, List, [], ◌∷◌, length, get_or, Contains, refl, sym, ap, ◌∙◌, subst, inl, inr, ⊎_elim, arith}
use Rattle.std.proofs.lemmas.Bool.{cases_Bool, both_ways}
use Rattle.std.proofs.lemmas.List.Elements.{Contains-get_or}
use Rattle.std.proofs.lemmas.List.Kept.{AllPairs-cons}
use Rattle.cnf_core.specs.Literals.{Literal, Literals, negated}
use Rattle.cnf_core.proofs.Lists.{Contains-head, Contains-cons_cases}
use Rattle.clause_arena.specs.Entries.{Entries, entry_at, IsLive}
use Rattle.trail_core.specs.Trails.{TrailState, assigned_at, IsTrail}
use Rattle.lrat_lines.specs.Sets.{has, IsSubset}
use Rattle.lrat_lines.specs.Propagation.{Known}
use Rattle.lrat_lines.specs.Tight.{IsTight}
use Rattle.lrat_lines.proofs.LiteralSets.{Contains_of_has, has_of_Contains}
use Rattle.lrat_lines.proofs.Tightness.{tight_known, tight_is_rup}
use Rattle.conflict_analysis.specs.Members.{IsLiveClause, IsRootUnit, IsMember, IsMapOf, IsProof}
use Rattle.trail_core.specs.TrueAndFalse.{IsFalse, IsFalseBelow, IsFreeBelow}
use Rattle.conflict_analysis.specs.Reasons.{IsQuietBelow, IsConflict}
use Rattle.conflict_analysis.specs.Answers.{IsLearnt}
use Rattle.conflict_analysis.specs.Steps.Walks.{WalkView, is_seen}
use Rattle.conflict_analysis.specs.Steps.Learning.{IsLower, IsFound, CanLearn, IsDerived}
use Rattle.conflict_analysis.proofs.Literals.{var_of_false, place_of_false, not_both_true}
use Rattle.conflict_analysis.proofs.Deriving.{tight_of_derives}

lower_is_false : (t : TrailState) (s : WalkView) (x : Literal) → IsLower t.entries t.level (is_seen s) x → IsFalse t.entries x
lower_is_false t s x h = record { place = h.place; within = h.within; lit = h.lit }

pub may_learn : (a : Entries) (t : TrailState) (r : ℕ) (first : Literal) (w : WalkView) → IsTrail t → IsConflict a t r
    → IsFound a t first w → CanLearn t first w
may_learn a t r first w trail conflict h = record {
  trail = trail;
  gathered = λ x there. lower_is_false t w x (h.lits_only x there);
  units = λ x there. (let o = h.roots_only x there in record {
    place = o.place;
    within = o.within;
    lit = o.lit;
    at_root = o.at_root;
    unit = conflict.root_units o.place o.within o.at_root;
  });
}

clause_false : (a : Entries) (t : TrailState) (first : Literal) (w : WalkView) (x : Literal) → IsFound a t first w
    → Contains (first ∷ w.lits) x → IsFalse t.entries x
clause_false a t first w x h there = ⊎_elim
    (λ (is : first ≡ x). record {
      place = h.first_at.place;
      within = h.first_at.within;
      lit = h.first_at.lit ∙ ap negated is;
    })
    (λ (later : Contains w.lits x). lower_is_false t w x (h.lits_only x later))
    (Contains-cons_cases first w.lits x there)

below_of_lower : (t : TrailState) (s : WalkView) (x : Literal) → IsLower t.entries t.level (is_seen s) x
    → IsFalseBelow t.entries t.level x
below_of_lower t s x h = record { place = h.place; within = h.within; lit = h.lit; below = h.below }

others_differ : (a : Entries) (t : TrailState) (first : Literal) (w : WalkView) (x : Literal) → IsTrail t → IsFound a t first w
    → Contains w.lits x → first.var ≡ x.var → ⊥
others_differ a t first w x trail h there same =
    let o = h.lits_only x there in
    let place : h.first_at.place ≡ o.place = place_of_false t h.first_at.place o.place x trail h.first_at.within o.within
    (var_of_false _ first h.first_at.lit ∙ same) o.lit in
    omega (arith, o.below, h.first_at.of_level, ap (λ (k : ℕ). (assigned_at t.entries k).level) place)

-- the first literal has no value below the level
first_is_free : (a : Entries) (t : TrailState) (first : Literal) (w : WalkView) → IsTrail t → IsFound a t first w
    → IsFreeBelow t.entries t.level first.var
first_is_free a t first w trail h k lt is =
    let place : k ≡ h.first_at.place = place_of_false t k h.first_at.place first trail lt h.first_at.within is h.first_at.lit in
    omega (arith, h.first_at.of_level, ap (λ (i : ℕ). (assigned_at t.entries i).level) place)

-- no live clause is a part of the clause: before the level it would have been false, or forced a literal
no_live_part : (a : Entries) (t : TrailState) (first : Literal) (w : WalkView) (r : ℕ) → IsTrail t → IsFound a t first w
    → IsQuietBelow a t.entries t.level → IsLive a r → IsSubset (entry_at a r).lits (first ∷ w.lits) → ⊥
no_live_part a t first w r trail h quiet live part =
    let others : (x : Literal) → Contains (entry_at a r).lits x → x ≢ first → IsFalseBelow t.entries t.level x =
    λ x there other. ⊎_elim
    (λ (is : first ≡ x). absurd (other (sym is)))
    (λ (later : Contains w.lits x). below_of_lower t w x (h.lits_only x later))
    (Contains-cons_cases first w.lits x (part x there)) in
    elim (cases_Bool (has (entry_at a r).lits first)) [
      | inl some ↦ quiet.none_unit r first live (Contains_of_has (entry_at a r).lits first some) (first_is_free a t first w trail h) others
      | inr none ↦ quiet.none_false r live (λ x there. others x there (λ is.
          both_ways (has (entry_at a r).lits first) none
          (has_of_Contains (entry_at a r).lits first (subst (λ (l : Literal). Contains (entry_at a r).lits l) is there))))
    ]

no_root_part : (a : Entries) (t : TrailState) (first : Literal) (w : WalkView) (k : ℕ) → IsTrail t → IsFound a t first w
    → k < length t.entries → IsSubset ((assigned_at t.entries k).lit ∷ []) (first ∷ w.lits) → ⊥
no_root_part a t first w k trail h lt part =
    let l = (assigned_at t.entries k).lit in
    let f = clause_false a t first w l h (part l (Contains-head l [])) in
    not_both_true t k f.place l trail lt f.within refl f.lit

fresh_of : (a : Entries) (t : TrailState) (first : Literal) (w : WalkView) (id : ℕ) (c : Literals) → IsTrail t → IsFound a t first w
    → IsQuietBelow a t.entries t.level → IsMember a t.entries id c → IsSubset c (first ∷ w.lits) → ⊥
fresh_of a t first w id c trail h quiet member part = ⊎_elim
    (λ (o : IsLiveClause a id c). no_live_part a t first w o.reference trail h quiet o.live
    (subst (λ (d : Literals). IsSubset d (first ∷ w.lits)) (sym o.has_lits) part))
    (λ (o : IsRootUnit t.entries id c). no_root_part a t first w o.place trail h o.within
    (subst (λ (d : Literals). IsSubset d (first ∷ w.lits)) (sym o.has_lits) part))
    member

tight_clause : (a : Entries) (t : TrailState) (first : Literal) (w : WalkView) (lits : Literals) (back : ℕ) (hints : List ℕ)
    (known : Known) → IsTrail t → IsFound a t first w → IsDerived t first w lits back hints → IsMapOf a t.entries known
    → IsTight known hints (first ∷ w.lits)
tight_clause a t first w lits back hints known trail h d map =
    tight_of_derives known t.entries (length t.entries) (first ∷ w.lits) hints
    (λ x q there lt is. (let f = clause_false a t first w x h there in not_both_true t q f.place x trail lt f.within is f.lit))
    (d.derives a known (first ∷ w.lits) map (h.derives known map))

pub tight_is_proof : (known : Known) (hints : List ℕ) (c : Literals) → IsTight known hints c → IsProof known hints c
tight_is_proof known hints c tight = record {
  ids = λ hint there. tight_known known hints c hint tight there;
  shows = tight_is_rup known hints c tight;
}

whole_clause : (a : Entries) (t : TrailState) (r : ℕ) (first : Literal) (w : WalkView) (lits : Literals) (back : ℕ) (hints : List ℕ)
    → IsTrail t → IsConflict a t r → IsFound a t first w → IsDerived t first w lits back hints
    → IsLearnt a t (first ∷ w.lits) back hints
whole_clause a t r first w lits back hints trail conflict h d = record {
  all_false = λ x there. clause_false a t first w x h there;
  first = first;
  others = w.lits;
  is = refl;
  first_at = h.first_at;
  others_below = λ x there. below_of_lower t w x (h.lits_only x there);
  highest = d.highest;
  plain = λ x there other.
      (let j = clause_false a t first w x h there in
      let k = clause_false a t first w (negated x) h other in
      not_both_true t j.place k.place (negated x) trail j.within k.within j.lit k.lit);
  each_once = AllPairs-cons (λ (k l : Literal). k.var ≢ l.var) first w.lits
      (λ i e lt. others_differ a t first w (get_or w.lits i e) trail h (Contains-get_or w.lits i e lt)) h.once;
  tight = λ known map. tight_clause a t first w lits back hints known trail h d map;
  proved = λ known map. tight_is_proof known hints (first ∷ w.lits) (tight_clause a t first w lits back hints known trail h d map);
  fresh = λ id c member part. fresh_of a t first w id c trail h conflict.quiet member part;
}

pub learnt_is : (a : Entries) (t : TrailState) (r : ℕ) (first : Literal) (w : WalkView) (lits : Literals) (back : ℕ) (hints : List ℕ)
    → IsTrail t → IsConflict a t r → IsFound a t first w → IsDerived t first w lits back hints
    → IsLearnt a t lits back hints
learnt_is a t r first w lits back hints trail conflict h d =
    subst (λ (c : Literals). IsLearnt a t c back hints) (sym d.clause)
    (whole_clause a t r first w lits back hints trail conflict h d)
