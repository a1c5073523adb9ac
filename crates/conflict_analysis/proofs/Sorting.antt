-- What was met stays sorted by level when a literal is taken up.
use Rattle.std.proofs.Common.{◌≡◌, ◌≢◌, ℕ, ◌+◌, ◌<◌, ◌≤◌, ◌==◌, ◌&&◌, Bool, true, false, [], ◌∷◌, ◌++◌, length, get_or, AllPairs, Contains}
use Rattle.std.proofs.Common.{refl, sym, ap, ◌∙◌, subst, inl, inr, ⊎_elim, arith}
use Rattle.std.proofs.lemmas.Bool.{cases_Bool, cases_eq, eq-eqb, ne_eqb, both_ways, false_from_ne_true, and_from}
use Rattle.std.proofs.lemmas.List.Elements.{Contains-push, Contains-push_cases, Contains-append_left, Contains-get_or}
use Rattle.std.proofs.lemmas.List.Quantifiers.{all_pairs_push}
use Rattle.cnf_core.specs.Literals.{Literal, Literals, negated}
use Rattle.cnf_core.proofs.Lists.{Contains-head, Contains-nil, Contains-cons_cases}
use Rattle.trail_core.specs.Trails.{TrailState, assigned_at, IsTrail}
use Rattle.conflict_analysis.specs.Steps.Walks.{WalkView, is_seen, HasVar, IsGrown}
use Rattle.conflict_analysis.specs.Steps.Learning.{is_open, open_count, IsLower, IsRoot, IsSorted}
use Rattle.conflict_analysis.proofs.Literals.{negation_back, var_of_false}
use Rattle.conflict_analysis.proofs.Counts.{count_same, count_more}

-- a literal that is false by the entry at a place is met newly, and nothing else is
pub record IsTaking (t : TrailState) (x : Literal) (old new : ℕ → Bool) (p : ℕ) : Type 0 where
  pub trail : IsTrail t
  pub within : p < length t.entries
  pub lit : (assigned_at t.entries p).lit ≡ negated x
  pub unseen : old x.var ≡ false
  pub grown : IsGrown (x ∷ []) old new

var_at : (t : TrailState) (x : Literal) (old new : ℕ → Bool) (p : ℕ) → IsTaking t x old new p
    → (assigned_at t.entries p).lit.var ≡ x.var
var_at t x old new p h = var_of_false _ x h.lit

pub met_there : (t : TrailState) (x : Literal) (old new : ℕ → Bool) (p : ℕ) → IsTaking t x old new p
    → new (assigned_at t.entries p).lit.var ≡ true
met_there t x old new p h = ap new (var_at t x old new p h) ∙ h.grown.marked x (Contains-head x [])

pub unmet_there : (t : TrailState) (x : Literal) (old new : ℕ → Bool) (p : ℕ) → IsTaking t x old new p
    → old (assigned_at t.entries p).lit.var ≡ false
unmet_there t x old new p h = ap old (var_at t x old new p h) ∙ h.unseen

pub met_before : (t : TrailState) (x : Literal) (old new : ℕ → Bool) (p k : ℕ) → IsTaking t x old new p
    → k < length t.entries → k ≢ p → new (assigned_at t.entries k).lit.var ≡ true → old (assigned_at t.entries k).lit.var ≡ true
met_before t x old new p k h lt other now =
    ⊎_elim
    (λ (was : old (assigned_at t.entries k).lit.var ≡ true). was)
    (λ (one : HasVar (x ∷ []) (assigned_at t.entries k).lit.var). ⊎_elim
    (λ (is : x ≡ one.literal). absurd (other (h.trail.distinct k p lt h.within
    (sym one.var ∙ ap (λ (l : Literal). l.var) (sym is) ∙ sym (var_at t x old new p h)))))
    (λ (none : Contains [] one.literal). absurd (Contains-nil one.literal none))
    (Contains-cons_cases x [] one.literal one.member))
    (h.grown.only (assigned_at t.entries k).lit.var now)

pub elsewhere : (t : TrailState) (x : Literal) (old new : ℕ → Bool) (p k : ℕ) → IsTaking t x old new p
    → k < length t.entries → k ≢ p → new (assigned_at t.entries k).lit.var ≡ old (assigned_at t.entries k).lit.var
elsewhere t x old new p k h lt other = elim (cases_Bool (old (assigned_at t.entries k).lit.var)) [
  | inl was ↦ h.grown.kept (assigned_at t.entries k).lit.var was ∙ sym was
  | inr not_was ↦ false_from_ne_true (new (assigned_at t.entries k).lit.var) (λ now.
      both_ways (old (assigned_at t.entries k).lit.var) not_was (met_before t x old new p k h lt other now)) ∙ sym not_was
]

pub open_elsewhere : (t : TrailState) (x : Literal) (old new : ℕ → Bool) (p k : ℕ) → IsTaking t x old new p
    → k < length t.entries → k ≢ p → is_open t.entries t.level new k ≡ is_open t.entries t.level old k
open_elsewhere t x old new p k h lt other =
    ap (λ (b : Bool). b && ((assigned_at t.entries k).level == t.level)) (elsewhere t x old new p k h lt other)

pub count_of_present : (t : TrailState) (x : Literal) (old new : ℕ → Bool) (p end : ℕ) → IsTaking t x old new p
    → end ≤ length t.entries → p < end → (assigned_at t.entries p).level ≡ t.level
    → open_count t.entries t.level new end ≡ open_count t.entries t.level old end + 1
count_of_present t x old new p end h fits before present =
    count_more (is_open t.entries t.level old) (is_open t.entries t.level new) end p before
    (ap (λ (b : Bool). b && ((assigned_at t.entries p).level == t.level)) (unmet_there t x old new p h))
    (and_from _ _ (met_there t x old new p h) (eq-eqb (assigned_at t.entries p).level t.level present))
    (λ k lt other. open_elsewhere t x old new p k h (omega arith) other)

and_false : (b : Bool) → (b && false) ≡ false
and_false true = refl
and_false false = refl

open_of_other_level : (t : TrailState) (seen : ℕ → Bool) (p : ℕ) → (assigned_at t.entries p).level ≢ t.level
    → is_open t.entries t.level seen p ≡ false
open_of_other_level t seen p other =
    ap (λ (b : Bool). seen (assigned_at t.entries p).lit.var && b) (ne_eqb (assigned_at t.entries p).level t.level other)
    ∙ and_false (seen (assigned_at t.entries p).lit.var)

pub count_of_other : (t : TrailState) (x : Literal) (old new : ℕ → Bool) (p end : ℕ) → IsTaking t x old new p
    → end ≤ length t.entries → (assigned_at t.entries p).level ≢ t.level
    → open_count t.entries t.level new end ≡ open_count t.entries t.level old end
count_of_other t x old new p end h fits other =
    count_same (is_open t.entries t.level old) (is_open t.entries t.level new) end (λ k lt. ⊎_elim
    (λ (is : k ≡ p). subst (λ (i : ℕ). is_open t.entries t.level new i ≡ is_open t.entries t.level old i) (sym is)
    (open_of_other_level t new p other ∙ sym (open_of_other_level t old p other)))
    (λ (away : k ≢ p). open_elsewhere t x old new p k h (omega arith) away)
    (cases_eq k p))

pub lower_kept : (es : TrailState) (s s' : ℕ → Bool) (xs : Literals) (y : Literal) → IsGrown xs s s'
    → IsLower es.entries es.level s y → IsLower es.entries es.level s' y
lower_kept es s s' xs y g h = record {
  place = h.place;
  within = h.within;
  lit = h.lit;
  met = g.kept (assigned_at es.entries h.place).lit.var h.met;
  above_root = h.above_root;
  below = h.below;
}

pub root_kept : (es : TrailState) (s s' : ℕ → Bool) (xs : Literals) (y : Literal) → IsGrown xs s s'
    → IsRoot es.entries s y → IsRoot es.entries s' y
root_kept es s s' xs y g h = record {
  place = h.place;
  within = h.within;
  lit = h.lit;
  met = g.kept (assigned_at es.entries h.place).lit.var h.met;
  at_root = h.at_root;
}

-- a literal of the present level is counted
pub sorted_present : (t : TrailState) (end : ℕ) (old new : WalkView) (x : Literal) (p : ℕ)
    → IsTaking t x (is_seen old) (is_seen new) p → end ≤ length t.entries → p < end
    → (assigned_at t.entries p).level ≡ t.level → new.lits ≡ old.lits → new.roots ≡ old.roots → new.count ≡ old.count + 1
    → IsSorted t end old → IsSorted t end new
sorted_present t end old new x p h fits before present lits roots count sorted = record {
  above_root = sorted.above_root;
  lits_only = λ y there. lower_kept t (is_seen old) (is_seen new) (x ∷ []) y h.grown
      (sorted.lits_only y (subst (λ (c : Literals). Contains c y) lits there));
  lits_all = λ k lt now above below. ⊎_elim
      (λ (is : k ≡ p). absurd (omega (arith, below, ap (λ (i : ℕ). (assigned_at t.entries i).level) is, present)))
      (λ (other : k ≢ p). subst (λ (c : Literals). Contains c (negated (assigned_at t.entries k).lit)) (sym lits)
      (sorted.lits_all k lt (met_before t x (is_seen old) (is_seen new) p k h lt other now) above below))
      (cases_eq k p);
  once = subst (λ (c : Literals). AllPairs (λ (k l : Literal). k.var ≢ l.var) c) (sym lits) sorted.once;
  roots_only = λ y there. root_kept t (is_seen old) (is_seen new) (x ∷ []) y h.grown
      (sorted.roots_only y (subst (λ (c : Literals). Contains c y) roots there));
  roots_all = λ k lt now at_root. ⊎_elim
      (λ (is : k ≡ p). absurd (omega (arith, at_root, ap (λ (i : ℕ). (assigned_at t.entries i).level) is, present, sorted.above_root)))
      (λ (other : k ≢ p). subst (λ (c : Literals). Contains c (negated (assigned_at t.entries k).lit)) (sym roots)
      (sorted.roots_all k lt (met_before t x (is_seen old) (is_seen new) p k h lt other now) at_root))
      (cases_eq k p);
  counted = count ∙ ap (λ (n : ℕ). n + 1) sorted.counted
      ∙ sym (count_of_present t x (is_seen old) (is_seen new) p end h fits before present);
}

-- one of the root is put to the roots
pub sorted_root : (t : TrailState) (end : ℕ) (old new : WalkView) (x : Literal) (p : ℕ)
    → IsTaking t x (is_seen old) (is_seen new) p → end ≤ length t.entries
    → (assigned_at t.entries p).level ≡ 0 → new.lits ≡ old.lits → new.roots ≡ old.roots ++ x ∷ [] → new.count ≡ old.count
    → IsSorted t end old → IsSorted t end new
sorted_root t end old new x p h fits at_level_0 lits roots count sorted = record {
  above_root = sorted.above_root;
  lits_only = λ y there. lower_kept t (is_seen old) (is_seen new) (x ∷ []) y h.grown
      (sorted.lits_only y (subst (λ (c : Literals). Contains c y) lits there));
  lits_all = λ k lt now above below. ⊎_elim
      (λ (is : k ≡ p). absurd (omega (arith, above, ap (λ (i : ℕ). (assigned_at t.entries i).level) is, at_level_0)))
      (λ (other : k ≢ p). subst (λ (c : Literals). Contains c (negated (assigned_at t.entries k).lit)) (sym lits)
      (sorted.lits_all k lt (met_before t x (is_seen old) (is_seen new) p k h lt other now) above below))
      (cases_eq k p);
  once = subst (λ (c : Literals). AllPairs (λ (k l : Literal). k.var ≢ l.var) c) (sym lits) sorted.once;
  roots_only = λ y there. ⊎_elim
      (λ (was : Contains old.roots y). root_kept t (is_seen old) (is_seen new) (x ∷ []) y h.grown (sorted.roots_only y was))
      (λ (is : x ≡ y). record {
        place = p;
        within = h.within;
        lit = h.lit ∙ ap negated is;
        met = met_there t x (is_seen old) (is_seen new) p h;
        at_root = at_level_0;
      })
      (Contains-push_cases old.roots x y (subst (λ (c : Literals). Contains c y) roots there));
  roots_all = λ k lt now at_root. subst (λ (c : Literals). Contains c (negated (assigned_at t.entries k).lit)) (sym roots) (⊎_elim
      (λ (is : k ≡ p). subst (λ (l : Literal). Contains (old.roots ++ x ∷ []) l)
      (negation_back (assigned_at t.entries k).lit x (ap (λ (i : ℕ). (assigned_at t.entries i).lit) is ∙ h.lit))
      (Contains-push old.roots x))
      (λ (other : k ≢ p). Contains-append_left old.roots (x ∷ []) (negated (assigned_at t.entries k).lit)
      (sorted.roots_all k lt (met_before t x (is_seen old) (is_seen new) p k h lt other now) at_root))
      (cases_eq k p));
  counted = count ∙ sorted.counted
      ∙ sym (count_of_other t x (is_seen old) (is_seen new) p end h fits (λ e. absurd (omega (arith, e, at_level_0, sorted.above_root))));
}

-- and one between them to the literals of the clause
pub sorted_lower : (t : TrailState) (end : ℕ) (old new : WalkView) (x : Literal) (p : ℕ)
    → IsTaking t x (is_seen old) (is_seen new) p → end ≤ length t.entries
    → 0 < (assigned_at t.entries p).level → (assigned_at t.entries p).level < t.level
    → new.lits ≡ old.lits ++ x ∷ [] → new.roots ≡ old.roots → new.count ≡ old.count
    → IsSorted t end old → IsSorted t end new
sorted_lower t end old new x p h fits above below lits roots count sorted = record {
  above_root = sorted.above_root;
  lits_only = λ y there. ⊎_elim
      (λ (was : Contains old.lits y). lower_kept t (is_seen old) (is_seen new) (x ∷ []) y h.grown (sorted.lits_only y was))
      (λ (is : x ≡ y). record {
        place = p;
        within = h.within;
        lit = h.lit ∙ ap negated is;
        met = met_there t x (is_seen old) (is_seen new) p h;
        above_root = above;
        below = below;
      })
      (Contains-push_cases old.lits x y (subst (λ (c : Literals). Contains c y) lits there));
  lits_all = λ k lt now over under. subst (λ (c : Literals). Contains c (negated (assigned_at t.entries k).lit)) (sym lits) (⊎_elim
      (λ (is : k ≡ p). subst (λ (l : Literal). Contains (old.lits ++ x ∷ []) l)
      (negation_back (assigned_at t.entries k).lit x (ap (λ (i : ℕ). (assigned_at t.entries i).lit) is ∙ h.lit))
      (Contains-push old.lits x))
      (λ (other : k ≢ p). Contains-append_left old.lits (x ∷ []) (negated (assigned_at t.entries k).lit)
      (sorted.lits_all k lt (met_before t x (is_seen old) (is_seen new) p k h lt other now) over under))
      (cases_eq k p));
  once = subst (λ (c : Literals). AllPairs (λ (k l : Literal). k.var ≢ l.var) c) (sym lits)
      (all_pairs_push (λ (k l : Literal). k.var ≢ l.var) old.lits x sorted.once (λ i d lt same.
      let lower = sorted.lits_only (get_or old.lits i d) (Contains-get_or old.lits i d lt) in
      both_ways (is_seen old x.var) h.unseen
      (ap (is_seen old) (sym same ∙ sym (var_of_false _ (get_or old.lits i d) lower.lit)) ∙ lower.met)));
  roots_only = λ y there. root_kept t (is_seen old) (is_seen new) (x ∷ []) y h.grown
      (sorted.roots_only y (subst (λ (c : Literals). Contains c y) roots there));
  roots_all = λ k lt now at_root. ⊎_elim
      (λ (is : k ≡ p). absurd (omega (arith, at_root, ap (λ (i : ℕ). (assigned_at t.entries i).level) is, above)))
      (λ (other : k ≢ p). subst (λ (c : Literals). Contains c (negated (assigned_at t.entries k).lit)) (sym roots)
      (sorted.roots_all k lt (met_before t x (is_seen old) (is_seen new) p k h lt other now) at_root))
      (cases_eq k p);
  counted = count ∙ sorted.counted
      ∙ sym (count_of_other t x (is_seen old) (is_seen new) p end h fits (λ e. absurd (omega (arith, e, below))));
}
