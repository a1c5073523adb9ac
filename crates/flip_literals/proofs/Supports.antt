-- The only true literal of the literals read so far, and what it says of the whole clause.
use Rattle.std.proofs.Common.{◌≡◌, false, ◌⊎◌, IsTrue, [], ◌∷◌, ◌++◌, Contains, Option, Some, None, MatchOption, sym, ◌∙◌, subst, ⊎_elim, inl, inr}
use Rattle.std.proofs.lemmas.Bool.{both_ways}
use Rattle.std.proofs.lemmas.List.Elements.{Contains-append_left, Contains-append_cases, Contains-push}
use Rattle.cnf_core.specs.Literals.{Literal, Literals, Assignment, negated, is_true}
use Rattle.cnf_core.proofs.Lists.{Contains-cons_cases, Contains-nil}
use Rattle.flip_literals.specs.Steps.Supports.{RestsOn}

-- no literal is true
pub record HasNoTrue (a : Assignment) (c : Literals) : Type 0 where
  pub none : (k : Literal) → Contains c k → IsTrue (is_true a k) → ⊥

-- the literal is true, and no other one is
pub record IsOnlyTrue (a : Assignment) (c : Literals) (l : Literal) : Type 0 where
  pub holds : IsTrue (is_true a l)
  pub present : Contains c l
  pub alone : (k : Literal) → Contains c k → IsTrue (is_true a k) → k ≡ l

abbrev pub IsFound : Assignment → Literals → Option Literal → Type 0
IsFound a c found = MatchOption found (HasNoTrue a c) (IsOnlyTrue a c)

pub found-nil : (a : Assignment) → HasNoTrue a []
found-nil a = record { none = λ k here _. Contains-nil k here }

push_cases : (c : Literals) (l k : Literal) → Contains (c ++ l ∷ []) k → Contains c k ⊎ (l ≡ k)
push_cases c l k here =
    ⊎_elim
    (λ (before : Contains c k). inl before)
    (λ (last : Contains (l ∷ []) k).
    ⊎_elim
    (λ (is : l ≡ k). inr is)
    (λ (past : Contains [] k). absurd (Contains-nil k past))
    (Contains-cons_cases l [] k last))
    (Contains-append_cases c (l ∷ []) k here)

-- a false literal changes nothing
none-false : (a : Assignment) (c : Literals) (l : Literal) → HasNoTrue a c → is_true a l ≡ false
    → HasNoTrue a (c ++ l ∷ [])
none-false a c l none fails = record {
  none = λ k here true_there. ⊎_elim
      (λ (before : Contains c k). none.none k before true_there)
      (λ (is : l ≡ k). both_ways (is_true a k) (subst (λ m. is_true a m ≡ false) is fails) true_there)
      (push_cases c l k here);
}

only-false : (a : Assignment) (c : Literals) (l k : Literal) → IsOnlyTrue a c l → is_true a k ≡ false
    → IsOnlyTrue a (c ++ k ∷ []) l
only-false a c l k only fails = record {
  holds = only.holds;
  present = Contains-append_left c (k ∷ []) l only.present;
  alone = λ m here true_there. ⊎_elim
      (λ (before : Contains c m). only.alone m before true_there)
      (λ (is : k ≡ m).
      absurd (both_ways (is_true a m) (subst (λ n. is_true a n ≡ false) is fails) true_there))
      (push_cases c k m here);
}

pub found-false : (a : Assignment) (c : Literals) (found : Option Literal) (k : Literal) → IsFound a c found
    → is_true a k ≡ false → IsFound a (c ++ k ∷ []) found
found-false a c None k none fails = none-false a c k none fails
found-false a c (Some l) k only fails = only-false a c l k only fails

-- the first true literal
pub found-first : (a : Assignment) (c : Literals) (l : Literal) → HasNoTrue a c → IsTrue (is_true a l)
    → IsOnlyTrue a (c ++ l ∷ []) l
found-first a c l none holds = record {
  holds = holds;
  present = Contains-push c l;
  alone = λ k here true_there. ⊎_elim
      (λ (before : Contains c k). absurd (none.none k before true_there))
      (λ (is : l ≡ k). sym is)
      (push_cases c l k here);
}

-- the same literal again
pub found-again : (a : Assignment) (c : Literals) (l k : Literal) → IsOnlyTrue a c l → l ≡ k
    → IsOnlyTrue a (c ++ k ∷ []) k
found-again a c l k only same = record {
  holds = subst (λ m. IsTrue (is_true a m)) same only.holds;
  present = Contains-push c k;
  alone = λ m here true_there. ⊎_elim
      (λ (before : Contains c m). only.alone m before true_there ∙ same)
      (λ (is : k ≡ m). sym is)
      (push_cases c k m here);
}

-- two different true literals: the clause rests on none
pub no_support-two : (a : Assignment) (c : Literals) (l k : Literal) → Contains c l → IsTrue (is_true a l)
    → Contains c k → IsTrue (is_true a k) → (l ≡ k → ⊥) → (m : Literal) → RestsOn a c m → ⊥
no_support-two a c l k l_here l_true k_here k_true apart m rests =
    apart (rests.critical.alone l l_here l_true ∙ sym (rests.critical.alone k k_here k_true))

-- no true literal
pub no_support-none : (a : Assignment) (c : Literals) → HasNoTrue a c → (m : Literal) → RestsOn a c m → ⊥
no_support-none a c none m rests = none.none m rests.critical.present rests.holds

-- the negation of the only true literal
pub no_support-negated : (a : Assignment) (c : Literals) (l : Literal) → IsOnlyTrue a c l
    → Contains c (negated l) → (m : Literal) → RestsOn a c m → ⊥
no_support-negated a c l only there m rests =
    rests.critical.plain (subst (λ k. Contains c (negated k)) (rests.critical.alone l only.present only.holds) there)

pub support-only : (a : Assignment) (c : Literals) (l : Literal) → IsOnlyTrue a c l
    → (Contains c (negated l) → ⊥) → RestsOn a c l
support-only a c l only plain = record {
  holds = only.holds;
  critical = record { present = only.present; plain = plain; alone = only.alone };
}
