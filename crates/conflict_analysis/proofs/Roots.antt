-- Root literals are resolved away by their units, and the highest level of literals.
use Rattle.std.proofs.Common.{◌≡◌, ◌⊎◌, ℕ, ◌+◌, ◌<◌, ◌≤◌, List, [], ◌∷◌, ◌++◌, length, get_or, take, drop, reverse, max, Contains, refl}
use Rattle.std.proofs.Common.{sym, ap, ◌∙◌, subst, inl, inr, ⊎_elim, arith}
use Rattle.std.proofs.lemmas.Bool.{cases_lt}
use Rattle.std.proofs.lemmas.Bool.Decides.{nat_tests}
use Rattle.std.specs.Ordering.{ord_max, nat_cmp}
use Rattle.std.proofs.lemmas.List.{drop_more, drop_all, take_more}
use Rattle.std.proofs.lemmas.List.Elements.{Contains-push, Contains-push_cases, Contains-append_left}
use Rattle.cnf_core.specs.Literals.{Literal, Literals, negated}
use Rattle.cnf_core.proofs.Lists.{Contains-head, Contains-tail, Contains-cons_cases, Contains-nil}
use Rattle.clause_arena.specs.Entries.{Entries}
use Rattle.trail_core.specs.declared.entry.Reason.TheVariants.{Unit as ByUnit}
use Rattle.trail_core.specs.Trails.{TrailState, assigned_at, IsTrail}
use Rattle.lrat_lines.specs.Propagation.{Known}
use Rattle.conflict_analysis.specs.Members.{IsMapOf}
use Rattle.trail_core.specs.TrueAndFalse.{IsFalse}
use Rattle.conflict_analysis.specs.Answers.{IsHighest}
use Rattle.conflict_analysis.specs.Steps.Resolvents.{Derives}
use Rattle.conflict_analysis.specs.Steps.Learning.{IsFalseByUnit}
use Rattle.conflict_analysis.proofs.Literals.{negation_back, var_of_false}
use Rattle.conflict_analysis.proofs.Deriving.{derives_more, derives_same}
use Rattle.conflict_analysis.proofs.Walking.{first_hint}

-- the literals that are left, from this place in the list on
abbrev pub own_and : Literals → Literals → Literal → Type 0
own_and own roots x = Contains own x ⊎ Contains roots x

pub rest_cases : (roots : Literals) (i : ℕ) (x y : Literal) → i < length roots → x ≡ get_or roots i x → Contains (drop i roots) y
    → (x ≡ y) ⊎ Contains (drop (i + 1) roots) y
rest_cases roots i x y lt is there =
    Contains-cons_cases x (drop (i + 1) roots) y
    (subst (λ (d : Literals). Contains d y) (drop_more roots i x lt ∙ ap (λ (z : Literal). z ∷ drop (i + 1) roots) (sym is)) there)

rest_here : (roots : Literals) (i : ℕ) (x : Literal) → i < length roots → x ≡ get_or roots i x → Contains (drop i roots) x
rest_here roots i x lt is =
    subst (λ (d : Literals). Contains d x) (sym (drop_more roots i x lt ∙ ap (λ (z : Literal). z ∷ drop (i + 1) roots) (sym is)))
    (Contains-head x (drop (i + 1) roots))

pub rest_later : (roots : Literals) (i : ℕ) (x y : Literal) → i < length roots → x ≡ get_or roots i x
    → Contains (drop (i + 1) roots) y → Contains (drop i roots) y
rest_later roots i x y lt is there =
    subst (λ (d : Literals). Contains d y) (sym (drop_more roots i x lt ∙ ap (λ (z : Literal). z ∷ drop (i + 1) roots) (sym is)))
    (Contains-tail x (drop (i + 1) roots) y there)

-- one root literal is resolved away by its unit
pub root_resolved : (a : Entries) (t : TrailState) (known : Known) (top : ℕ) (own roots : Literals) (i : ℕ) (x : Literal) (id : ℕ)
    (old new : List ℕ) → IsTrail t → top ≤ length t.entries → i < length roots → x ≡ get_or roots i x
    → (f : IsFalseByUnit t.entries x) → f.place < top
    → ((k : ℕ) → k < length t.entries → (assigned_at t.entries k).lit.var ≡ x.var → (assigned_at t.entries k).reason ≡ ByUnit id)
    → new ≡ old ++ id ∷ [] → IsMapOf a t.entries known
    → Derives known t.entries top (own_and own (drop i roots)) (reverse old)
    → Derives known t.entries top (own_and own (drop (i + 1) roots)) (reverse new)
root_resolved a t known top own roots i x id old new trail short lt is f before read new_is map d =
    let l = (assigned_at t.entries f.place).lit in
    let member = map id (l ∷ []) (inr (record {
      place = f.place;
      within = f.within;
      at_root = f.at_root;
      reason = read f.place f.within (var_of_false _ x f.lit);
      has_lits = refl;
    })) in
    let back : x ≡ negated l = negation_back l x f.lit in
    subst (λ (hs : List ℕ). Derives known t.entries top (own_and own (drop (i + 1) roots)) hs)
    (sym (first_hint old new id new_is))
    (derives_more known t top f.place id (l ∷ []) l (own_and own (drop i roots)) (own_and own (drop (i + 1) roots))
    (reverse old) trail short before refl member (Contains-head l [])
    (inr (subst (λ (y : Literal). Contains (drop i roots) y) back (rest_here roots i x lt is)))
    (λ y in_d other. ⊎_elim
    (λ (owned : Contains own y). inl owned)
    (λ (left : Contains (drop i roots) y). ⊎_elim
    (λ (same : x ≡ y). absurd (other (sym same ∙ back)))
    (λ (later : Contains (drop (i + 1) roots) y). inr later)
    (rest_cases roots i x y lt is left))
    in_d)
    (λ y in_c other. ⊎_elim
    (λ (same : l ≡ y). absurd (other (sym same)))
    (λ (none : Contains [] y). absurd (Contains-nil y none))
    (Contains-cons_cases l [] y in_c))
    (λ y in_e. inl (⊎_elim
    (λ (owned : Contains own y). inl owned)
    (λ (later : Contains (drop (i + 1) roots) y). inr (rest_later roots i x y lt is later))
    in_e))
    d)

-- at the end none is left
pub roots_resolved : (t : TrailState) (known : Known) (top : ℕ) (own roots : Literals) (i : ℕ) (hints : List ℕ) → length roots ≤ i
    → Derives known t.entries top (own_and own (drop i roots)) hints
    → Derives known t.entries top (Contains own) hints
roots_resolved t known top own roots i hints past d =
    derives_same known t.entries top (own_and own (drop i roots)) (Contains own) hints
    (λ x in_d. ⊎_elim
    (λ (owned : Contains own x). owned)
    (λ (left : Contains (drop i roots) x). absurd (Contains-nil x
    (subst (λ (d : Literals). Contains d x) (drop_all i roots past) left)))
    in_d)
    (λ x owned. inl owned)
    d

-- one literal more: the higher of its level and the highest so far
pub highest_more : (t : TrailState) (lits : Literals) (i highest level : ℕ) (x : Literal) → IsTrail t → i < length lits
    → x ≡ get_or lits i x → IsFalse t.entries x
    → ((k : ℕ) → k < length t.entries → (assigned_at t.entries k).lit.var ≡ x.var → level ≡ (assigned_at t.entries k).level)
    → IsHighest t.entries (take i lits) highest → IsHighest t.entries (take (i + 1) lits) (max highest level)
highest_more t lits i highest level x trail lt is f read h =
    subst (λ (d : Literals). IsHighest t.entries d (max highest level))
    (sym (take_more lits i x lt ∙ ap (λ (y : Literal). take i lits ++ y ∷ []) (sym is)))
    (record {
      at_most = λ y k there within lit. ⊎_elim
          (λ (old : Contains (take i lits) y). omega (arith, h.at_most y k old within lit))
          (λ (same : x ≡ y). omega (arith, read k within (var_of_false _ y lit ∙ ap (λ (l : Literal). l.var) (sym same))))
          (Contains-push_cases (take i lits) x y there);
      reached = λ some. ⊎_elim
          (λ (lower : highest < level). record {
            literal = x;
            member = Contains-push (take i lits) x;
            at_level = record {
              place = f.place;
              within = f.within;
              lit = f.lit;
              of_level = omega (arith, lower, read f.place f.within (var_of_false _ x f.lit));
            };
          })
          (λ (upper : level ≤ highest). (let o = h.reached (omega arith) in record {
            literal = o.literal;
            member = Contains-append_left (take i lits) (x ∷ []) o.literal o.member;
            at_level = record {
              place = o.at_level.place;
              within = o.at_level.within;
              lit = o.at_level.lit;
              of_level = omega (arith, upper, o.at_level.of_level);
            };
          }))
          (cases_lt highest level);
    })

pub max_is : (a b : ℕ) → ord_max nat_cmp a b ≡ max a b
max_is a b = grind (arith, nat_tests)
