-- The settings of the examples meet the conditions.
use Rattle.std.proofs.Common.{◌≡◌, ◌≢◌, ℕ, zero, suc, ◌<◌, ◌≤◌, Bool, true, false, List, [], ◌∷◌, length, Contains, refl, sym, ap, ◌∙◌}
use Rattle.std.proofs.Common.{subst, ⊎_elim, arith}
use Rattle.cnf_core.specs.Literals.{Literal, Literals, negated}
use Rattle.cnf_core.proofs.Lists.{Contains-cons_cases, Contains-nil}
use Rattle.clause_arena.specs.Entries.{entry_at, IsLive}
use Rattle.trail_core.specs.declared.entry.Assigned.{Assigned}
use Rattle.trail_core.specs.declared.entry.Reason.TheVariants.{Decision, Clause as ByClause, Unit as ByUnit}
use Rattle.trail_core.specs.Trails.{assigned_at}
use Rattle.trail_core.specs.TrueAndFalse.{IsFalse, IsFalseAt, IsFalseBelow, IsFalseBefore, IsFreeBelow}
use Rattle.lrat_lines.proofs.Tightness.{same_or_not}
use Rattle.conflict_analysis.specs.Reasons.{IsReason, IsReasoned, IsUnit, IsConflict}
use Rattle.conflict_analysis.specs.Examples.{literal, deep_clauses, deep_trail, wide_clauses, wide_trail, root_clauses, root_trail}
use Rattle.conflict_analysis.specs.Examples.{ExamplesAreReady}
use Rattle.conflict_analysis.proofs.Literals.{negation_back}

-- what holds of each of two or three literals holds of each member
each_of_two : (P : Literal → Type 0) (k l : Literal) → P k → P l → (x : Literal) → Contains (k ∷ l ∷ []) x → P x
each_of_two P k l first second x there = ⊎_elim
    (λ (is : k ≡ x). subst P is first)
    (λ (later : Contains (l ∷ []) x). ⊎_elim
    (λ (is : l ≡ x). subst P is second)
    (λ (none : Contains [] x). absurd (Contains-nil x none))
    (Contains-cons_cases l [] x later))
    (Contains-cons_cases k (l ∷ []) x there)

each_of_three : (P : Literal → Type 0) (k l m : Literal) → P k → P l → P m → (x : Literal) → Contains (k ∷ l ∷ m ∷ []) x → P x
each_of_three P k l m first second third x there = ⊎_elim
    (λ (is : k ≡ x). subst P is first)
    (λ (later : Contains (l ∷ m ∷ []) x). each_of_two P l m second third x later)
    (Contains-cons_cases k (l ∷ m ∷ []) x there)

other_sign : (v : ℕ) → literal v true ≡ literal v false → ⊥
other_sign v is = (let signs = ap (λ (l : Literal). l.positive) is in cc signs)

-- a conflict below two decisions
deep_first : (j k : ℕ) → j < k → k < length deep_trail.entries → (assigned_at deep_trail.entries k).reason ≡ Decision
    → (assigned_at deep_trail.entries j).level ≢ (assigned_at deep_trail.entries k).level
unfolding deep_clauses deep_trail root_clauses root_trail
deep_first j zero before fits decided = absurd (omega arith)
deep_first zero (suc zero) before fits decided = λ same. omega (arith, same)
deep_first (suc j) (suc zero) before fits decided = absurd (omega arith)
deep_first j (suc (suc zero)) before fits decided = absurd (cc)
deep_first j (suc (suc (suc k))) before fits decided = absurd (omega arith)

deep_decisions : (k : ℕ) → k < length deep_trail.entries → (assigned_at deep_trail.entries k).reason ≡ Decision
    → 0 < (assigned_at deep_trail.entries k).level
unfolding deep_clauses deep_trail root_clauses root_trail
deep_decisions zero fits decided = omega arith
deep_decisions (suc zero) fits decided = omega arith
deep_decisions (suc (suc zero)) fits decided = omega arith
deep_decisions (suc (suc (suc k))) fits decided = absurd (omega arith)

deep_units : (k id : ℕ) → k < length deep_trail.entries → (assigned_at deep_trail.entries k).reason ≡ ByUnit id
    → (assigned_at deep_trail.entries k).level ≡ 0
unfolding deep_clauses deep_trail root_clauses root_trail
deep_units zero id fits unit = absurd (cc)
deep_units (suc zero) id fits unit = absurd (cc)
deep_units (suc (suc zero)) id fits unit = absurd (cc)
deep_units (suc (suc (suc k))) id fits unit = absurd (omega arith)

deep_reason : IsReason deep_clauses deep_trail.entries 2 0
unfolding deep_clauses deep_trail root_clauses root_trail
deep_reason = record {
  live = record { present = omega arith; live = refl };
  member = (2, omega arith, refl);
  others = each_of_three (λ x. x ≢ literal 3 true → IsFalseBefore deep_trail.entries 2 x)
      (literal 1 false) (literal 2 false) (literal 3 true)
      (λ other. record { place = 0; before = omega arith; lit = refl })
      (λ other. record { place = 1; before = omega arith; lit = refl })
      (λ other. absurd (other refl));
}

deep_reason_of : (k r : ℕ) → k < length deep_trail.entries → (assigned_at deep_trail.entries k).reason ≡ ByClause r
    → IsReason deep_clauses deep_trail.entries k r
unfolding deep_clauses deep_trail root_clauses root_trail
deep_reason_of zero r fits because = absurd (cc)
deep_reason_of (suc zero) r fits because = absurd (cc)
deep_reason_of (suc (suc zero)) r fits because =
    let which : 0 ≡ r = cc because in
    subst (λ (n : ℕ). IsReason deep_clauses deep_trail.entries 2 n) which deep_reason
deep_reason_of (suc (suc (suc k))) r fits because = absurd (omega arith)

deep_reasons : IsReasoned deep_clauses deep_trail.entries
unfolding deep_clauses deep_trail root_clauses root_trail
deep_reasons = record { first_of_level = deep_first; decisions = deep_decisions; units = deep_units; clauses = deep_reason_of }

-- only the first decision is below the second one's level
below_by : (p : ℕ) (x : Literal) → p < length deep_trail.entries → (assigned_at deep_trail.entries p).lit ≡ negated x
    → (assigned_at deep_trail.entries p).level < 2 → x ≡ literal 1 false
unfolding deep_clauses deep_trail root_clauses root_trail
below_by zero x fits is below = negation_back (literal 1 true) x is
below_by (suc zero) x fits is below = absurd (omega arith)
below_by (suc (suc zero)) x fits is below = absurd (omega arith)
below_by (suc (suc (suc k))) x fits is below = absurd (omega arith)

not_below : (v : ℕ) (sign : Bool) → v ≢ 1 → IsFalseBelow deep_trail.entries 2 (literal v sign) → ⊥
unfolding deep_clauses deep_trail root_clauses root_trail
not_below v sign other f =
    other (ap (λ (l : Literal). l.var) (below_by f.place (literal v sign) f.within f.lit f.below))

-- where two literals of a clause aren't false below the level, it is neither false nor a unit before
two_open : (es : List Assigned) (level : ℕ) (c : Literals) (k m : Literal) → k.var ≢ m.var → Contains c k → Contains c m
    → (IsFalseBelow es level k → ⊥) → (IsFalseBelow es level m → ⊥)
    → (l : Literal) → ((x : Literal) → Contains c x → x ≢ l → IsFalseBelow es level x) → ⊥
two_open es level c k m apart there there_too first second l others = ⊎_elim
    (λ (is : k ≡ l). second (others m there_too (λ same. apart (ap (λ (x : Literal). x.var) (is ∙ sym same)))))
    (λ (other : k ≢ l). first (others k there other))
    (same_or_not k l)

deep_none_false : (r : ℕ) → IsLive deep_clauses r
    → ((x : Literal) → Contains (entry_at deep_clauses r).lits x → IsFalseBelow deep_trail.entries 2 x) → ⊥
unfolding deep_clauses deep_trail root_clauses root_trail
deep_none_false zero live all = not_below 2 false (λ is. omega (arith, is)) (all (literal 2 false) (1, omega arith, refl))
deep_none_false (suc zero) live all = not_below 2 false (λ is. omega (arith, is)) (all (literal 2 false) (1, omega arith, refl))
deep_none_false (suc (suc r)) live all = omega (arith, live.present)

deep_none_unit : (r : ℕ) (l : Literal) → IsLive deep_clauses r → Contains (entry_at deep_clauses r).lits l
    → IsFreeBelow deep_trail.entries 2 l.var
    → ((x : Literal) → Contains (entry_at deep_clauses r).lits x → x ≢ l → IsFalseBelow deep_trail.entries 2 x) → ⊥
unfolding deep_clauses deep_trail root_clauses root_trail
deep_none_unit zero l live there free others =
    two_open deep_trail.entries 2 (entry_at deep_clauses 0).lits (literal 2 false) (literal 3 true) (λ is. omega (arith, is))
    (1, omega arith, refl) (2, omega arith, refl) (not_below 2 false (λ is. omega (arith, is)))
    (not_below 3 true (λ is. omega (arith, is))) l others
deep_none_unit (suc zero) l live there free others =
    two_open deep_trail.entries 2 (entry_at deep_clauses 1).lits (literal 2 false) (literal 3 false) (λ is. omega (arith, is))
    (1, omega arith, refl) (2, omega arith, refl) (not_below 2 false (λ is. omega (arith, is)))
    (not_below 3 false (λ is. omega (arith, is))) l others
deep_none_unit (suc (suc r)) l live there free others = omega (arith, live.present)

deep_root_units : (k : ℕ) → k < length deep_trail.entries → (assigned_at deep_trail.entries k).level ≡ 0
    → IsUnit (assigned_at deep_trail.entries k)
unfolding deep_clauses deep_trail root_clauses root_trail
deep_root_units zero fits root = absurd (omega (arith, root))
deep_root_units (suc zero) fits root = absurd (omega (arith, root))
deep_root_units (suc (suc zero)) fits root = absurd (omega (arith, root))
deep_root_units (suc (suc (suc k))) fits root = absurd (omega arith)

deep_conflict : IsConflict deep_clauses deep_trail 1
unfolding deep_clauses deep_trail root_clauses root_trail
deep_conflict = record {
  live = record { present = omega arith; live = refl };
  all_false = each_of_three (IsFalse deep_trail.entries) (literal 1 false) (literal 2 false) (literal 3 false)
      (record { place = 0; within = omega arith; lit = refl })
      (record { place = 1; within = omega arith; lit = refl })
      (record { place = 2; within = omega arith; lit = refl });
  at_level = record {
    literal = literal 2 false;
    member = (1, omega arith, refl);
    at_level = record { place = 1; within = omega arith; lit = refl; of_level = refl };
  };
  above_root = omega arith;
  root_units = deep_root_units;
  quiet = record { none_false = deep_none_false; none_unit = deep_none_unit };
}

-- a conflict with a root literal, and with a level between its own and that of its other literal
each_of_four : (P : Literal → Type 0) (k l m n : Literal) → P k → P l → P m → P n → (x : Literal)
    → Contains (k ∷ l ∷ m ∷ n ∷ []) x → P x
each_of_four P k l m n first second third fourth x there = ⊎_elim
    (λ (is : k ≡ x). subst P is first)
    (λ (later : Contains (l ∷ m ∷ n ∷ []) x). each_of_three P l m n second third fourth x later)
    (Contains-cons_cases k (l ∷ m ∷ n ∷ []) x there)

-- what an entry of a place is follows by the place
wide_each : (P : ℕ → Type 0) → P 0 → P 1 → P 2 → P 3 → P 4 → (k : ℕ) → k < length wide_trail.entries → P k
unfolding wide_trail
wide_each P first second third fourth fifth zero fits = first
wide_each P first second third fourth fifth (suc zero) fits = second
wide_each P first second third fourth fifth (suc (suc zero)) fits = third
wide_each P first second third fourth fifth (suc (suc (suc zero))) fits = fourth
wide_each P first second third fourth fifth (suc (suc (suc (suc zero)))) fits = fifth
wide_each P first second third fourth fifth (suc (suc (suc (suc (suc k))))) fits = absurd (omega arith)

wide_first : (j k : ℕ) → j < k → k < length wide_trail.entries → (assigned_at wide_trail.entries k).reason ≡ Decision
    → (assigned_at wide_trail.entries j).level ≢ (assigned_at wide_trail.entries k).level
unfolding wide_clauses wide_trail
wide_first j zero before fits decided = absurd (omega arith)
wide_first zero (suc zero) before fits decided = λ same. omega (arith, same)
wide_first (suc j) (suc zero) before fits decided = absurd (omega arith)
wide_first zero (suc (suc zero)) before fits decided = λ same. omega (arith, same)
wide_first (suc zero) (suc (suc zero)) before fits decided = λ same. omega (arith, same)
wide_first (suc (suc j)) (suc (suc zero)) before fits decided = absurd (omega arith)
wide_first zero (suc (suc (suc zero))) before fits decided = λ same. omega (arith, same)
wide_first (suc zero) (suc (suc (suc zero))) before fits decided = λ same. omega (arith, same)
wide_first (suc (suc zero)) (suc (suc (suc zero))) before fits decided = λ same. omega (arith, same)
wide_first (suc (suc (suc j))) (suc (suc (suc zero))) before fits decided = absurd (omega arith)
wide_first j (suc (suc (suc (suc zero)))) before fits decided = absurd (cc)
wide_first j (suc (suc (suc (suc (suc k))))) before fits decided = absurd (omega arith)

wide_decisions : (k : ℕ) → k < length wide_trail.entries → (assigned_at wide_trail.entries k).reason ≡ Decision
    → 0 < (assigned_at wide_trail.entries k).level
unfolding wide_clauses wide_trail
wide_decisions = wide_each
    (λ k. (assigned_at wide_trail.entries k).reason ≡ Decision → 0 < (assigned_at wide_trail.entries k).level)
    (λ decided. absurd (cc)) (λ decided. omega arith) (λ decided. omega arith) (λ decided. omega arith) (λ decided. omega arith)

wide_units : (k id : ℕ) → k < length wide_trail.entries → (assigned_at wide_trail.entries k).reason ≡ ByUnit id
    → (assigned_at wide_trail.entries k).level ≡ 0
unfolding wide_clauses wide_trail
wide_units zero id fits unit = refl
wide_units (suc zero) id fits unit = absurd (cc)
wide_units (suc (suc zero)) id fits unit = absurd (cc)
wide_units (suc (suc (suc zero))) id fits unit = absurd (cc)
wide_units (suc (suc (suc (suc zero)))) id fits unit = absurd (cc)
wide_units (suc (suc (suc (suc (suc k))))) id fits unit = absurd (omega arith)

wide_reason : IsReason wide_clauses wide_trail.entries 4 0
unfolding wide_clauses wide_trail
wide_reason = record {
  live = record { present = omega arith; live = refl };
  member = (3, omega arith, refl);
  others = each_of_four (λ x. x ≢ literal 5 true → IsFalseBefore wide_trail.entries 4 x)
      (literal 1 false) (literal 2 false) (literal 4 false) (literal 5 true)
      (λ other. record { place = 0; before = omega arith; lit = refl })
      (λ other. record { place = 1; before = omega arith; lit = refl })
      (λ other. record { place = 3; before = omega arith; lit = refl })
      (λ other. absurd (other refl));
}

wide_reason_of : (k r : ℕ) → k < length wide_trail.entries → (assigned_at wide_trail.entries k).reason ≡ ByClause r
    → IsReason wide_clauses wide_trail.entries k r
unfolding wide_clauses wide_trail
wide_reason_of zero r fits because = absurd (cc)
wide_reason_of (suc zero) r fits because = absurd (cc)
wide_reason_of (suc (suc zero)) r fits because = absurd (cc)
wide_reason_of (suc (suc (suc zero))) r fits because = absurd (cc)
wide_reason_of (suc (suc (suc (suc zero)))) r fits because =
    let which : 0 ≡ r = cc because in
    subst (λ (n : ℕ). IsReason wide_clauses wide_trail.entries 4 n) which wide_reason
wide_reason_of (suc (suc (suc (suc (suc k))))) r fits because = absurd (omega arith)

wide_reasons : IsReasoned wide_clauses wide_trail.entries
unfolding wide_clauses wide_trail
wide_reasons = record { first_of_level = wide_first; decisions = wide_decisions; units = wide_units; clauses = wide_reason_of }

-- only the first three variables have values below the level
wide_low : (p : ℕ) (x : Literal) → p < length wide_trail.entries → (assigned_at wide_trail.entries p).lit ≡ negated x
    → (assigned_at wide_trail.entries p).level < 3 → x.var ≤ 3
unfolding wide_clauses wide_trail
wide_low zero x fits is below = omega (arith, ap (λ (l : Literal). l.var) is)
wide_low (suc zero) x fits is below = omega (arith, ap (λ (l : Literal). l.var) is)
wide_low (suc (suc zero)) x fits is below = omega (arith, ap (λ (l : Literal). l.var) is)
wide_low (suc (suc (suc zero))) x fits is below = absurd (omega arith)
wide_low (suc (suc (suc (suc zero)))) x fits is below = absurd (omega arith)
wide_low (suc (suc (suc (suc (suc k))))) x fits is below = absurd (omega arith)

not_low : (x : Literal) → 3 < x.var → IsFalseBelow wide_trail.entries 3 x → ⊥
not_low x high f = omega (arith, high, wide_low f.place x f.within f.lit f.below)

wide_none_false : (r : ℕ) → IsLive wide_clauses r
    → ((x : Literal) → Contains (entry_at wide_clauses r).lits x → IsFalseBelow wide_trail.entries 3 x) → ⊥
unfolding wide_clauses wide_trail
wide_none_false zero live all = not_low (literal 4 false) (omega arith) (all (literal 4 false) (2, omega arith, refl))
wide_none_false (suc zero) live all = not_low (literal 4 false) (omega arith) (all (literal 4 false) (2, omega arith, refl))
wide_none_false (suc (suc r)) live all = omega (arith, live.present)

wide_none_unit : (r : ℕ) (l : Literal) → IsLive wide_clauses r → Contains (entry_at wide_clauses r).lits l
    → IsFreeBelow wide_trail.entries 3 l.var
    → ((x : Literal) → Contains (entry_at wide_clauses r).lits x → x ≢ l → IsFalseBelow wide_trail.entries 3 x) → ⊥
unfolding wide_clauses wide_trail
wide_none_unit zero l live there free others =
    two_open wide_trail.entries 3 (entry_at wide_clauses 0).lits (literal 4 false) (literal 5 true) (λ is. omega (arith, is))
    (2, omega arith, refl) (3, omega arith, refl) (not_low (literal 4 false) (omega arith)) (not_low (literal 5 true) (omega arith))
    l others
wide_none_unit (suc zero) l live there free others =
    two_open wide_trail.entries 3 (entry_at wide_clauses 1).lits (literal 4 false) (literal 5 false) (λ is. omega (arith, is))
    (2, omega arith, refl) (3, omega arith, refl) (not_low (literal 4 false) (omega arith)) (not_low (literal 5 false) (omega arith))
    l others
wide_none_unit (suc (suc r)) l live there free others = omega (arith, live.present)

wide_root_units : (k : ℕ) → k < length wide_trail.entries → (assigned_at wide_trail.entries k).level ≡ 0
    → IsUnit (assigned_at wide_trail.entries k)
unfolding wide_clauses wide_trail
wide_root_units zero fits root = record { id = 3; reason = refl }
wide_root_units (suc zero) fits root = absurd (omega (arith, root))
wide_root_units (suc (suc zero)) fits root = absurd (omega (arith, root))
wide_root_units (suc (suc (suc zero))) fits root = absurd (omega (arith, root))
wide_root_units (suc (suc (suc (suc zero)))) fits root = absurd (omega (arith, root))
wide_root_units (suc (suc (suc (suc (suc k))))) fits root = absurd (omega arith)

wide_conflict : IsConflict wide_clauses wide_trail 1
unfolding wide_clauses wide_trail
wide_conflict = record {
  live = record { present = omega arith; live = refl };
  all_false = each_of_four (IsFalse wide_trail.entries) (literal 1 false) (literal 2 false) (literal 4 false) (literal 5 false)
      (record { place = 0; within = omega arith; lit = refl })
      (record { place = 1; within = omega arith; lit = refl })
      (record { place = 3; within = omega arith; lit = refl })
      (record { place = 4; within = omega arith; lit = refl });
  at_level = record {
    literal = literal 4 false;
    member = (2, omega arith, refl);
    at_level = record { place = 3; within = omega arith; lit = refl; of_level = refl };
  };
  above_root = omega arith;
  root_units = wide_root_units;
  quiet = record { none_false = wide_none_false; none_unit = wide_none_unit };
}

-- a conflict at the root
root_decisions : (k : ℕ) → k < length root_trail.entries → (assigned_at root_trail.entries k).reason ≡ Decision → ⊥
unfolding deep_clauses deep_trail root_clauses root_trail
root_decisions zero fits decided = cc
root_decisions (suc zero) fits decided = cc
root_decisions (suc (suc k)) fits decided = omega arith

root_levels : (k : ℕ) → k < length root_trail.entries → (assigned_at root_trail.entries k).level ≡ 0
unfolding deep_clauses deep_trail root_clauses root_trail
root_levels zero fits = refl
root_levels (suc zero) fits = refl
root_levels (suc (suc k)) fits = absurd (omega arith)

root_reason : IsReason root_clauses root_trail.entries 1 0
unfolding deep_clauses deep_trail root_clauses root_trail
root_reason = record {
  live = record { present = omega arith; live = refl };
  member = (1, omega arith, refl);
  others = each_of_two (λ x. x ≢ literal 2 true → IsFalseBefore root_trail.entries 1 x) (literal 1 false) (literal 2 true)
      (λ other. record { place = 0; before = omega arith; lit = refl })
      (λ other. absurd (other refl));
}

root_reason_of : (k r : ℕ) → k < length root_trail.entries → (assigned_at root_trail.entries k).reason ≡ ByClause r
    → IsReason root_clauses root_trail.entries k r
unfolding deep_clauses deep_trail root_clauses root_trail
root_reason_of zero r fits because = absurd (cc)
root_reason_of (suc zero) r fits because =
    let which : 0 ≡ r = cc because in
    subst (λ (n : ℕ). IsReason root_clauses root_trail.entries 1 n) which root_reason
root_reason_of (suc (suc k)) r fits because = absurd (omega arith)

root_reasons : IsReasoned root_clauses root_trail.entries
unfolding deep_clauses deep_trail root_clauses root_trail
root_reasons = record {
  first_of_level = λ j k before fits decided. absurd (root_decisions k fits decided);
  decisions = λ k fits decided. absurd (root_decisions k fits decided);
  units = λ k id fits unit. root_levels k fits;
  clauses = root_reason_of;
}

root_unit : (k : ℕ) → k < 1 → IsUnit (assigned_at root_trail.entries k)
unfolding deep_clauses deep_trail root_clauses root_trail
root_unit zero before = record { id = 3; reason = refl }
root_unit (suc k) before = absurd (omega arith)

pub examples_are_ready : ExamplesAreReady
unfolding deep_clauses deep_trail wide_clauses wide_trail root_clauses root_trail
examples_are_ready = record {
  deep_reasons = deep_reasons;
  deep_conflict = deep_conflict;
  deep_false = record { place = 2; within = omega arith; lit = refl };
  wide_reasons = wide_reasons;
  wide_conflict = wide_conflict;
  root_reasons = root_reasons;
  root_conflict = record {
    live = record { present = omega arith; live = refl };
    all_false = each_of_two (IsFalseAt root_trail.entries 0) (literal 1 false) (literal 2 false)
        (record { place = 0; within = omega arith; lit = refl; of_level = refl })
        (record { place = 1; within = omega arith; lit = refl; of_level = refl });
  };
  root_false = record { place = 1; within = omega arith; lit = refl };
  root_true = record { place = 1; within = omega arith; lit = refl; at_root = refl; units = root_unit };
}
