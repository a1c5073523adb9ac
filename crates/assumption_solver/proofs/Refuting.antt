-- Final entries: the empty clause, and cores.
use Rattle.std.proofs.Common.{◌≡◌, ◌≢◌, ◌⊎◌, ℕ, ◌<◌, List, [], ◌∷◌, length, get_or, Contains, refl, sym, ap, ◌∙◌, subst, inl, inr, ⊎_elim, arith}
use Rattle.std.proofs.lemmas.List.Elements.{All-nil, All-cons, All-contains, All-from_get_or, Contains-get_or}
use Rattle.cnf_core.proofs.Lists.{Contains-cons_cases}
use Rattle.cnf_core.specs.Literals.{Literal, Literals, negated, IsWithin, AreWithin}
use Rattle.clause_arena.specs.Entries.{Entries, no_literal}
use Rattle.trail_core.specs.Trails.{TrailState, assigned_at, HasLiteral, IsTrail}
use Rattle.trail_core.specs.TrueAndFalse.{HasLiteralBefore}
use Rattle.watch_lists.specs.Lists.{WatchLists}
use Rattle.watch_lists.proofs.Fronts.{negated_twice}
use Rattle.watch_lists.proofs.Kept.{not_both}
use Rattle.lrat_lines.specs.Propagation.{Known}
use Rattle.conflict_analysis.specs.Answers.{IsCore, NegatesDecision}
use Rattle.conflict_analysis.specs.Members.{IsMapOf, IsProof}
use Rattle.lrat_log.specs.declared.kind.Kind.TheVariants.{Unit as UnitKind, Core as CoreKind}
use Rattle.lrat_log.specs.Entries.{Recorded, known_after}
use Rattle.lrat_log.specs.Kept.{IsShown}
use Rattle.search_policy.specs.Epochs.{EpochState}
use Rattle.assumption_solver.specs.Logs.{IsEntryAt}
use Rattle.assumption_solver.specs.Answers.{IsCoreAt, IsCoreFor}
use Rattle.assumption_solver.specs.Units.{IsUnitAt, HasUnit}
use Rattle.assumption_solver.specs.Steps.Searching.{HaveUnits}
use Rattle.assumption_solver.specs.Steps.Queries.{IsGuided, IsFailed, IsRefuted}
use Rattle.assumption_solver.specs.Steps.Solving.{IsSolving}
use Rattle.assumption_solver.proofs.Known.{map_of, is_shown, shown_same, clause_of_known, unit_known}

-- ---- the empty clause

pub empty_is_shown : (n s : ℕ) (a : Entries) (w : WatchLists) (t : TrailState) (L : Recorded) (epochs : EpochState) (hints given : List ℕ)
    → IsSolving n s a w t L epochs → ((known : Known) → IsMapOf a t.entries known → IsProof known hints []) → given ≡ hints
    → IsShown L.formula L.entries given []
empty_is_shown n s a w t L epochs hints given h proved same =
    subst (λ (hs : List ℕ). IsShown L.formula L.entries hs []) (sym same)
    (is_shown L hints [] (All-nil (IsWithin L.formula.vars)) (proved (known_after L.formula L.entries) (map_of a t.entries L h.bears.logged)))

-- ---- cores

-- the core's literals are false on the trail, so they are among its variables
core_literal : (assume chunk : Literals) (a : Entries) (t : TrailState) (l x : Literal) (lits : Literals) (hints : List ℕ) → IsFailed assume t l
    → IsCore a t l lits hints → Contains lits x → HasLiteral t.entries (negated x) ⊎ (x ≡ negated l)
core_literal assume chunk a t l x lits hints failed core member =
    ⊎_elim
    (λ (own : x ≡ negated l). inr own)
    (λ (d : NegatesDecision t.entries x).
    let there : HasLiteral t.entries (negated x) = record {
      place = d.place;
      within = d.within;
      lit = sym (negated_twice (assigned_at t.entries d.place).lit) ∙ ap negated (sym d.lit);
    } in inl there)
    (core.drawn x member)

pub core_within : (n : ℕ) (assume chunk : Literals) (a : Entries) (t : TrailState) (l : Literal) (lits : Literals) (hints : List ℕ) → IsTrail t
    → t.vars ≡ n → IsFailed assume t l → IsCore a t l lits hints → AreWithin n lits
core_within n assume chunk a t l lits hints trail vars failed core =
    subst (λ (m : ℕ). AreWithin m lits) vars (All-from_get_or (IsWithin t.vars) lits no_literal (λ i lt.
    let x = get_or lits i no_literal in
    let member = Contains-get_or lits i no_literal lt in
    let by : (k : Literal) → HasLiteral t.entries k → k.var ≡ x.var → IsWithin t.vars x =
    λ k h same.
    let w = trail.within h.place h.within in
    let v : (assigned_at t.entries h.place).lit.var ≡ x.var = ap (λ (y : Literal). y.var) h.lit ∙ same in
    record { low = omega (arith, w.low, v); high = omega (arith, w.high, v) } in
    ⊎_elim
    (λ (h : HasLiteral t.entries (negated x)). by (negated x) h refl)
    (λ (own : x ≡ negated l). by (negated l) failed.made_false (ap (λ (y : Literal). y.var) (sym own)))
    (core_literal assume chunk a t l x lits hints failed core member)))

pub core_is_shown : (n s : ℕ) (a : Entries) (w : WatchLists) (t : TrailState) (L : Recorded) (epochs : EpochState) (assume chunk : Literals)
    (l : Literal) (lits : Literals) (hints : List ℕ) → IsSolving n s a w t L epochs → IsTrail t → IsFailed assume t l
    → IsCore a t l lits hints → IsShown L.formula L.entries hints lits
core_is_shown n s a w t L epochs assume chunk l lits hints h trail failed core =
    is_shown L hints lits (core_within L.formula.vars assume chunk a t l lits hints trail h.bears.vars failed core)
    (core.proved (known_after L.formula L.entries) (map_of a t.entries L h.bears.logged))

-- its literals negate assumptions: a decision behind all of them would have come after the failed one, which is false
pub core_negates : (assume chunk : Literals) (a : Entries) (t : TrailState) (l : Literal) (lits : Literals) (hints : List ℕ) → IsTrail t
    → IsGuided assume chunk t → IsFailed assume t l → IsCore a t l lits hints → (x : Literal) → Contains lits x → Contains assume (negated x)
core_negates assume chunk a t l lits hints trail guided failed core x member =
    ⊎_elim
    (λ (own : x ≡ negated l).
    subst (Contains assume) (sym (negated_twice l) ∙ ap negated (sym own)) failed.member)
    (λ (d : NegatesDecision t.entries x).
    let is : (assigned_at t.entries d.place).lit ≡ negated x =
    sym (negated_twice (assigned_at t.entries d.place).lit) ∙ ap negated (sym d.lit) in
    ⊎_elim
    (λ (one : Contains assume (assigned_at t.entries d.place).lit). subst (Contains assume) is one)
    (λ (all : (y : Literal) → Contains assume y → HasLiteralBefore t.entries d.place y).
    let p = all l failed.member in
    absurd (not_both t l p.place failed.made_false.place trail (omega (arith, p.before, d.within)) failed.made_false.within p.lit
    failed.made_false.lit))
    (guided.assumptions d.place d.within d.reason))
    (core.drawn x member)

some_of_member : (c : Literals) (x : Literal) → Contains c x → 0 < length c
some_of_member c x member = omega (arith, member.1)

-- the entry of a core with its kind
pub core_of_unit : (L : Recorded) (id : ℕ) (c : Literals) → length c ≡ 1 → IsEntryAt L id UnitKind c → IsCoreAt L id c
core_of_unit L id c one h = record { one = λ same. h; more = λ lt. absurd (omega (arith, lt, one)) }

pub core_of_core : (L : Recorded) (id : ℕ) (c : Literals) → length c ≢ 1 → IsEntryAt L id CoreKind c → IsCoreAt L id c
core_of_core L id c other h = record { one = λ same. absurd (other same); more = λ lt. h }

pub core_for : (L : Recorded) (id : ℕ) (assume chunk : Literals) (a : Entries) (t : TrailState) (l : Literal) (lits : Literals) (hints : List ℕ)
    → IsTrail t → IsGuided assume chunk t → IsFailed assume t l → IsCore a t l lits hints → IsCoreAt L id lits → IsCoreFor L assume lits id
core_for L id assume chunk a t l lits hints trail guided failed core at = record {
  some = some_of_member lits (negated l) core.own;
  negates = core_negates assume chunk a t l lits hints trail guided failed core;
  at_id = at;
}

-- ---- an assumption that is false at the root

-- the log has its negation
pub root_has_unit : (n s : ℕ) (a : Entries) (w : WatchLists) (t : TrailState) (L : Recorded) (epochs : EpochState) (assume : Literals)
    (l k : Literal) → IsSolving n s a w t L epochs → HaveUnits t.entries → IsRefuted assume t l → k ≡ negated l → HasUnit L k
root_has_unit n s a w t L epochs assume l k h units refuted is =
    let m = refuted.made in
    let u = units m.place m.within m.of_level in record {
      id = u.id;
      at_id = subst (λ (x : Literal). IsUnitAt L u.id x) (m.lit ∙ sym is) (h.bears.logged.units m.place u.id m.within u.reason);
    }

pub unit_shown_again : (L : Recorded) (id : ℕ) (l : Literal) → IsWithin L.formula.vars l → IsUnitAt L id l
    → IsShown L.formula L.entries (id ∷ []) (l ∷ [])
unit_shown_again L id l within u =
    shown_same L id (l ∷ []) (All-cons (IsWithin L.formula.vars) l [] within (All-nil (IsWithin L.formula.vars)))
    (clause_of_known L id (l ∷ []) (unit_known L id l u))

negated_within : (n : ℕ) (assume : Literals) (l k : Literal) → AreWithin n assume → Contains assume l → k ≡ negated l → IsWithin n k
negated_within n assume l k within member is =
    let w = All-contains (IsWithin n) assume l within member in
    subst (IsWithin n) (sym is) (record { low = w.low; high = w.high })

pub root_core_shown : (L : Recorded) (assume : Literals) (t : TrailState) (id : ℕ) (l k : Literal) → AreWithin L.formula.vars assume
    → IsRefuted assume t l → k ≡ negated l → IsUnitAt L id k → IsShown L.formula L.entries (id ∷ []) (k ∷ [])
root_core_shown L assume t id l k within refuted is u =
    unit_shown_again L id k (negated_within L.formula.vars assume l k within refuted.member is) u

pub root_core_for : (L : Recorded) (id : ℕ) (assume : Literals) (t : TrailState) (l k : Literal) → IsRefuted assume t l → k ≡ negated l
    → IsEntryAt L id UnitKind (k ∷ []) → IsCoreFor L assume (k ∷ []) id
root_core_for L id assume t l k refuted is at = record {
  some = omega arith;
  negates = λ x member.
      ⊎_elim
      (λ (same : k ≡ x). subst (Contains assume) (sym (negated_twice l) ∙ ap negated (sym is ∙ same)) refuted.member)
      (λ (none : Contains [] x). absurd (omega (arith, none.1)))
      (Contains-cons_cases k [] x member);
  at_id = core_of_unit L id (k ∷ []) refl at;
}
