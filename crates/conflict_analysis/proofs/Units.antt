-- A literal that is true at the root, as a unit clause: the units of the other literals of its reason, and the
-- reason, show it.
use Rattle.std.proofs.Common.{◌≡◌, ◌≢◌, ◌⊎◌, ℕ, ◌+◌, ◌<◌, ◌≤◌, eqb, false, List, [], ◌∷◌, ◌++◌, length, get_or, drop, reverse, Contains}
use Rattle.std.proofs.Common.{refl, sym, ap, ◌∙◌, subst, inl, inr, ⊎_elim, arith, eq-eqb}
use Rattle.cnf_core.specs.Literals.{Literal, Literals, code_of}
use Rattle.cnf_core.proofs.Lists.{Contains-head, Contains-cons_cases, Contains-nil}
use Rattle.clause_arena.specs.Entries.{Entries, entry_at}
use Rattle.trail_core.specs.declared.entry.Reason.{Reason}
use Rattle.trail_core.specs.declared.entry.Reason.TheVariants.{Decision, Clause as ByClause, Unit as ByUnit}
use Rattle.trail_core.specs.Trails.{TrailState, assigned_at, IsTrail}
use Rattle.trail_core.specs.TrueAndFalse.{IsFalseBefore}
use Rattle.lrat_lines.specs.Propagation.{Known}
use Rattle.lrat_lines.specs.Tight.{IsTight}
use Rattle.lrat_lines.proofs.Tightness.{same_or_not}
use Rattle.conflict_analysis.specs.Members.{IsMapOf}
use Rattle.conflict_analysis.specs.Reasons.{IsReasoned, IsRootLiteral}
use Rattle.conflict_analysis.specs.Steps.Walks.{WalkView}
use Rattle.conflict_analysis.specs.Steps.Resolvents.{Derives}
use Rattle.conflict_analysis.specs.Steps.Learning.{IsFalseByUnit, ResolvesOthers, CanShow, ShowsLiteral}
use Rattle.conflict_analysis.proofs.Literals.{place_of_false, var_of_false}
use Rattle.conflict_analysis.proofs.Deriving.{derives_clause, derives_same, tight_of_derives}
use Rattle.conflict_analysis.proofs.Growing.{element_is_member}
use Rattle.conflict_analysis.proofs.Roots.{own_and, rest_cases, rest_later, root_resolved, roots_resolved}
use Rattle.conflict_analysis.proofs.Outcomes.{tight_is_proof}
use Rattle.conflict_analysis.proofs.Walking.{has_reason, first_hint}

-- literals whose packed forms differ
pub apart : (x l : Literal) → eqb (code_of x) (code_of l) ≡ false → x ≢ l
apart x l differ same =
    let e = eq-eqb (code_of x) (code_of l) (ap code_of same) in cc

-- ---- along the clause

-- from these hints to those, the literals of a clause before a place are resolved away, but for one
abbrev pub ResolvesFront : TrailState → Literals → Literal → ℕ → List ℕ → List ℕ → Type 0
ResolvesFront t c own i old new = (a : Entries) (known : Known) (top : ℕ) → IsMapOf a t.entries known → top ≤ length t.entries
    → ((x : Literal) → Contains c x → x ≢ own → IsFalseBefore t.entries top x)
    → Derives known t.entries top (Contains c) (reverse old)
    → Derives known t.entries top (own_and (own ∷ []) (drop i c)) (reverse new)

pub front_none : (t : TrailState) (c : Literals) (own : Literal) (hints : List ℕ) → Contains c own → ResolvesFront t c own 0 hints hints
front_none t c own hints there a known top map short before d =
    derives_same known t.entries top (Contains c) (own_and (own ∷ []) c) (reverse hints)
    (λ x member. inr member)
    (λ x either. ⊎_elim
    (λ (owned : Contains (own ∷ []) x). ⊎_elim
    (λ (is : own ≡ x). subst (λ (l : Literal). Contains c l) is there)
    (λ (none : Contains [] x). absurd (Contains-nil x none))
    (Contains-cons_cases own [] x owned))
    (λ (member : Contains c x). member)
    either)
    d

-- the one that stays is passed
pub front_own : (t : TrailState) (c : Literals) (own : Literal) (i : ℕ) (x : Literal) (old now : List ℕ) → i < length c
    → x ≡ get_or c i x → x ≡ own → ResolvesFront t c own i old now → ResolvesFront t c own (i + 1) old now
front_own t c own i x old now lt is same h a known top map short before d =
    derives_same known t.entries top (own_and (own ∷ []) (drop i c)) (own_and (own ∷ []) (drop (i + 1) c)) (reverse now)
    (λ y either. ⊎_elim
    (λ (owned : Contains (own ∷ []) y). inl owned)
    (λ (rest : Contains (drop i c) y). ⊎_elim
    (λ (here : x ≡ y). inl (subst (λ (l : Literal). Contains (own ∷ []) l) (sym same ∙ here) (Contains-head own [])))
    (λ (later : Contains (drop (i + 1) c) y). inr later)
    (rest_cases c i x y lt is rest))
    either)
    (λ y either. ⊎_elim
    (λ (owned : Contains (own ∷ []) y). inl owned)
    (λ (later : Contains (drop (i + 1) c) y). inr (rest_later c i x y lt is later))
    either)
    (h a known top map short before d)

-- another one is resolved away by its unit
pub front_more : (t : TrailState) (c : Literals) (own : Literal) (i : ℕ) (x : Literal) (id : ℕ) (old now new : List ℕ) → IsTrail t
    → i < length c → x ≡ get_or c i x → x ≢ own → (f : IsFalseByUnit t.entries x)
    → ((k : ℕ) → k < length t.entries → (assigned_at t.entries k).lit.var ≡ x.var → (assigned_at t.entries k).reason ≡ ByUnit id)
    → new ≡ now ++ id ∷ [] → ResolvesFront t c own i old now → ResolvesFront t c own (i + 1) old new
front_more t c own i x id old now new trail lt is other f read made h a known top map short before d =
    let g = before x (element_is_member c i x lt is) other in
    let same : f.place ≡ g.place =
    place_of_false t f.place g.place x trail f.within (omega (arith, g.before, short)) (var_of_false _ x f.lit) g.lit in
    root_resolved a t known top (own ∷ []) c i x id now new trail short lt is f (omega (arith, same, g.before)) read made map
    (h a known top map short before d)

pub front_all : (t : TrailState) (c : Literals) (own : Literal) (i : ℕ) (old new : List ℕ) → length c ≤ i
    → ResolvesFront t c own i old new → ResolvesOthers t.entries c own old new
front_all t c own i old new past h a known top map short before d =
    roots_resolved t known top (own ∷ []) c i (reverse new) past (h a known top map short before d)

-- ---- what is shown

-- the literal's own place
pub can_show : (a : Entries) (t : TrailState) (l : Literal) (v p : ℕ) → IsTrail t → IsReasoned a t.entries → IsRootLiteral t.entries l
    → v ≡ l.var → ((k : ℕ) → k < length t.entries → (assigned_at t.entries k).lit.var ≡ v → p ≡ k) → CanShow a t l p
can_show a t l v p trail reasons root var read =
    let same : p ≡ root.place = read root.place root.within (ap (λ (m : Literal). m.var) root.lit ∙ sym var) in
    subst (λ (k : ℕ). CanShow a t l k) (sym same) (record {
      trail = trail;
      reasons = reasons;
      within = root.within;
      lit = root.lit;
      at_root = root.at_root;
      units = root.units;
    })

-- the others of its reason are false by units
pub others_by_units : (a : Entries) (t : TrailState) (l : Literal) (p r : ℕ) → CanShow a t l p
    → (assigned_at t.entries p).reason ≡ ByClause r → (x : Literal) → Contains (entry_at a r).lits x → x ≢ l
    → IsFalseByUnit t.entries x
others_by_units a t l p r h because x there other =
    let why = h.reasons.clauses p r h.within because in
    let f = why.others x there (λ is. other (is ∙ h.lit)) in
    let rises = h.trail.leveled.rises f.place p (omega (arith, f.before)) h.within in
    record {
      place = f.place;
      within = omega (arith, f.before, h.within);
      lit = f.lit;
      at_root = omega (arith, rises, h.at_root);
      unit = h.units f.place f.before;
    }

pub own_member : (a : Entries) (t : TrailState) (l : Literal) (p r : ℕ) → CanShow a t l p
    → (assigned_at t.entries p).reason ≡ ByClause r → Contains (entry_at a r).lits l
own_member a t l p r h because =
    subst (λ (m : Literal). Contains (entry_at a r).lits m) h.lit (h.reasons.clauses p r h.within because).member

-- a decision isn't at the root
pub not_decided : (a : Entries) (t : TrailState) (l : Literal) (p : ℕ) → CanShow a t l p
    → (assigned_at t.entries p).reason ≡ Decision → ⊥
not_decided a t l p h because = omega (arith, h.at_root, h.reasons.decisions p h.within because)

pub shown_by_unit : (a : Entries) (t : TrailState) (l : Literal) (p id : ℕ) (old new : List ℕ) → CanShow a t l p
    → (assigned_at t.entries p).reason ≡ ByUnit id → old ≡ [] → new ≡ old ++ id ∷ [] → ShowsLiteral a t.entries l (reverse new)
shown_by_unit a t l p id old new h because none made known map =
    let hints : reverse new ≡ id ∷ [] = first_hint old new id made ∙ ap (λ (hs : List ℕ). id ∷ reverse hs) none in
    tight_is_proof known (reverse new) (l ∷ [])
    (subst (λ (hs : List ℕ). IsTight known hs (l ∷ [])) (sym hints)
    (tight_of_derives known t.entries 0 (l ∷ []) (id ∷ []) (λ x q there lt _. omega (arith, lt))
    (derives_clause known t.entries 0 id (l ∷ [])
    (map id (l ∷ []) (inr (record {
      place = p;
      within = h.within;
      at_root = h.at_root;
      reason = because;
      has_lits = ap (λ (m : Literal). m ∷ []) h.lit;
    }))))))

pub shown_by_clause : (a : Entries) (t : TrailState) (l : Literal) (p r id : ℕ) (first old new : List ℕ) → CanShow a t l p
    → (assigned_at t.entries p).reason ≡ ByClause r → first ≡ [] → id ≡ (entry_at a r).id → old ≡ first ++ id ∷ []
    → ResolvesOthers t.entries (entry_at a r).lits l old new → ShowsLiteral a t.entries l (reverse new)
shown_by_clause a t l p r id first old new h because none id_is made resolves known map =
    let c = (entry_at a r).lits in
    let why = h.reasons.clauses p r h.within because in
    let hints : reverse old ≡ (entry_at a r).id ∷ [] =
    first_hint first old id made ∙ ap (λ (hs : List ℕ). id ∷ reverse hs) none ∙ ap (λ (n : ℕ). n ∷ []) id_is in
    let begin : Derives known t.entries p (Contains c) (reverse old) =
    subst (λ (hs : List ℕ). Derives known t.entries p (Contains c) hs) (sym hints)
    (derives_clause known t.entries p (entry_at a r).id c (has_reason a t r known map why.live)) in
    tight_is_proof known (reverse new) (l ∷ [])
    (tight_of_derives known t.entries p (l ∷ []) (reverse new)
    (λ x q there lt is. ⊎_elim
    (λ (own : l ≡ x). omega (
      arith,
      lt,
      h.trail.distinct q p (omega (arith, lt, h.within)) h.within
          (ap (λ (m : Literal). m.var) (is ∙ sym own ∙ sym h.lit)),
    ))
    (λ (none : Contains [] x). Contains-nil x none)
    (Contains-cons_cases l [] x there))
    (resolves a known p map (omega (arith, h.within)) (λ x there other. why.others x there (λ is. other (is ∙ h.lit))) begin))
