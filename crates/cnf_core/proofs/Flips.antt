-- A model with one variable flipped: a clause fails there exactly where it is critical for that variable.
use Rattle.std.proofs.Common.{◌≡◌, ℕ, ◌-◌, ◌<◌, ◌≤◌, ◌≢◌, Bool, true, false, not, if◌then◌else◌, IsTrue, length, Contains, refl, sym, ap, ◌∙◌, subst, ⊎_elim, length-set, arith}
use Rattle.std.proofs.lemmas.Bool.{cases_eq, true_from_ne_false, not-true, both_ways}
use Rattle.std.proofs.lemmas.List.Elements.{All-contains}
use Rattle.cnf_core.specs.Literals.{Literal, Literals, Assignment, negated, value_of, is_true, clause_true, IsWithin, AreWithin}
use Rattle.cnf_core.specs.Formulas.{true_literal}
use Rattle.cnf_core.specs.Laws.{IsCriticalFor, FlippedModel}
use Rattle.cnf_core.proofs.Lists.{passes_of_list_all, list_all_of_members, member_of_list_any, list_any_of_member}
use Rattle.cnf_core.proofs.Truth.{flipped, value_of-with_value, value_of-with_value_other, is_true_same, is_true_flipped, true_literal_of_is_true, negated_of_is_false}

-- where v is flipped, a literal of v turns, and a literal of another variable stays
is_true-flipped_own : (a : Assignment) (l : Literal) → 0 < l.var → l.var ≤ length a
    → is_true (flipped a l.var) l ≡ not (is_true a l)
is_true-flipped_own a l low high =
    is_true_flipped a (flipped a l.var) l (value_of-with_value a l.var (not (value_of a l.var)) low high)

is_true-flipped_other : (a : Assignment) (v : ℕ) (l : Literal) → 0 < v → 0 < l.var → l.var ≢ v
    → is_true (flipped a v) l ≡ is_true a l
is_true-flipped_other a v l low_v low_l other =
    is_true_same a (flipped a v) l (value_of-with_value_other a v l.var (not (value_of a v)) low_v low_l other)

-- a critical clause fails where the variable is flipped
critical_fails : (a : Assignment) (v : ℕ) (c : Literals) → 0 < v → v ≤ length a → AreWithin (length a) c
    → IsCriticalFor a (true_literal a v) c → IsTrue (clause_true (flipped a v) c) → ⊥
critical_fails a v c low high within critical holds =
    let (k, here, true_there) = member_of_list_any (is_true (flipped a v)) c holds in
    let k_within : IsWithin (length a) k = All-contains (IsWithin (length a)) c k within here in
    ⊎_elim
    (λ (own : k.var ≡ v).
    let turned : is_true (flipped a v) k ≡ not (is_true a k) =
    subst (λ w. is_true (flipped a w) k ≡ not (is_true a k)) own
    (is_true-flipped_own a k k_within.low k_within.high) in
    let fails : is_true a k ≡ false = not-true (is_true a k) (sym turned ∙ true_there) in
    let is : negated (true_literal a v) ≡ k =
    subst (λ w. negated (true_literal a w) ≡ k) own (negated_of_is_false a k fails) in
    critical.plain (subst (λ l. Contains c l) (sym is) here))
    (λ (other : k.var ≢ v).
    let holds_before : is_true a k ≡ true =
    sym (is_true-flipped_other a v k low k_within.low other) ∙ true_there in
    other (ap (λ (l : Literal). l.var) (critical.alone k here holds_before)))
    (cases_eq k.var v)

-- the negation of the variable's own literal is true where that is flipped
negated-flipped : (a : Assignment) (v : ℕ) → 0 < v → v ≤ length a
    → IsTrue (is_true (flipped a v) (negated (true_literal a v)))
negated-flipped a v low high =
    is_true-flipped_own a (negated (true_literal a v)) low high ∙ by_value (value_of a v)
  where
    by_value : (value : Bool) → not (if not value then value else not value) ≡ true
    by_value true = refl
    by_value false = refl

-- a true clause that fails where the variable is flipped is critical
critical_by : (a : Assignment) (v : ℕ) (c : Literals) → 0 < v → v ≤ length a → AreWithin (length a) c
    → IsTrue (clause_true a c) → clause_true (flipped a v) c ≡ false → IsCriticalFor a (true_literal a v) c
critical_by a v c low high within holds fails =
    let fails_there : (k : Literal) → Contains c k → IsTrue (is_true (flipped a v) k) → ⊥ =
    λ k here true_there. both_ways (clause_true (flipped a v) c) fails (list_any_of_member (is_true (flipped a v)) c k here true_there)
    in
    let alone : (k : Literal) → Contains c k → IsTrue (is_true a k) → k ≡ true_literal a v =
    λ k here true_before. ⊎_elim
    (λ (own : k.var ≡ v). sym (subst (λ w. true_literal a w ≡ k) own (true_literal_of_is_true a k true_before)))
    (λ (other : k.var ≢ v).
    let k_within : IsWithin (length a) k = All-contains (IsWithin (length a)) c k within here in
    absurd (fails_there k here (is_true-flipped_other a v k low k_within.low other ∙ true_before)))
    (cases_eq k.var v)
    in
    let (k, here, true_before) = member_of_list_any (is_true a) c holds in
    record {
      present = subst (λ l. Contains c l) (alone k here true_before) here;
      plain = λ there. fails_there (negated (true_literal a v)) there (negated-flipped a v low high);
      alone = alone;
    }

pub flipped_model : FlippedModel
flipped_model F a v low high within model =
    let here_within : v ≤ length a = omega (arith, model.values) in
    let clause_within : (c : Literals) → Contains F.clauses c → AreWithin (length a) c =
    λ c here. subst (λ n. AreWithin n c) (sym model.values) (All-contains (AreWithin F.vars) F.clauses c within here)
    in (
      λ turned c here critical.
          critical_fails a v c low here_within (clause_within c here) critical
          (passes_of_list_all (clause_true (flipped a v)) F.clauses c turned.satisfied here),
      λ none_critical. record {
        values = length-set a (v - 1) (not (value_of a v)) ∙ model.values;
        satisfied = list_all_of_members (clause_true (flipped a v)) F.clauses
            (λ c here. true_from_ne_false (clause_true (flipped a v) c)
            (λ fails. none_critical c here
            (critical_by a v c low here_within (clause_within c here)
            (passes_of_list_all (clause_true a) F.clauses c model.satisfied here) fails)));
      },
    )
