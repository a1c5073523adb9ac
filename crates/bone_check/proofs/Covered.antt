-- The variables of a formula, one after another, and the marks of those that are covered.
use Rattle.std.proofs.Common.{◌≡◌, ℕ, zero, suc, ◌+◌, ◌-◌, ◌<◌, ◌≤◌, ◌==◌, Bool, false, ◌||◌, if◌then◌else◌, List, [], ◌∷◌, ◌++◌, Option, Some, None, length, replicate, Contains, refl, sym, ap, ◌∙◌, inl, inr, ⊎_elim, arith, append_assoc}
use Rattle.std.specs.List.{list_any}
use Rattle.std.proofs.lemmas.Bool.{cases_eq}
use Rattle.std.proofs.lemmas.List.{length_push, get_or-replicate}
use Rattle.std.proofs.lemmas.List.Elements.{Contains-append_cases}
use Rattle.cnf_core.specs.Literals.{Literals, Assignment, value_of}
use Rattle.cnf_core.specs.Formulas.{Cnf, is_shown}
use Rattle.cnf_core.proofs.Lists.{Contains-nil, Contains-cons_cases}
use Rattle.witness_text.specs.declared.line.WitnessLine.{WitnessLine}
use Rattle.bone_check.specs.declared.verdict.Reason.{Reason}
use Rattle.bone_check.specs.declared.verdict.Reason.TheVariants.{NotCovered}
use Rattle.bone_check.specs.declared.verdict.Verdict.{Verdict}
use Rattle.bone_check.specs.declared.verdict.Verdict.TheVariants.{Verified, NotVerified}
use Rattle.bone_check.specs.Tests.{◌then◌, each_from}
use Rattle.bone_check.specs.Witnessing.{variables, is_covered, cover_fault}
use Rattle.bone_check.specs.Steps.Covering.{mark_fault}
use Rattle.bone_check.proofs.TestLemmas.{passes_alone, fails_first, each_append, each_same}

pub length-variables : (n : ℕ) → length (variables n) ≡ n
length-variables zero = refl
length-variables (suc n) = omega (arith, length_push (variables n) (suc n), length-variables n)

variables_more : (k : ℕ) → variables (k + 1) ≡ variables k ++ (k + 1) ∷ []
variables_more k =
    let e : k + 1 ≡ suc k = omega arith in ap variables e ∙ ap (λ (n : ℕ). variables k ++ n ∷ []) (sym e)

last_split : (n k : ℕ) → k ≡ n → variables (suc n) ≡ variables k ++ (k + 1) ∷ []
last_split n k is =
    let e : suc n ≡ k + 1 = omega arith in ap variables e ∙ variables_more k

-- up to a number that isn't the last
pub record Splits (n k : ℕ) : Type 0 where
  pub rest : List ℕ
  pub all : variables n ≡ variables k ++ (k + 1) ∷ rest

variables_split : (n k : ℕ) → k < n → Splits n k
variables_split zero k lt = absurd (omega arith)
variables_split (suc n) k lt = elim (cases_eq k n) [
  | inl is ↦ (record { rest = []; all = last_split n k is })
  | inr other ↦
      (let before = variables_split n k (omega arith) in
      record {
        rest = before.rest ++ suc n ∷ [];
        all = ap (λ (vs : List ℕ). vs ++ suc n ∷ []) before.all ∙ append_assoc (variables k) ((k + 1) ∷ before.rest) (suc n ∷ []);
      })
]

-- one variable more that passes
pub variables_next : (test : ℕ → Option Reason) (k : ℕ) → each_from test 1 (variables k) ≡ Verified → test (k + 1) ≡ None
    → each_from test 1 (variables (k + 1)) ≡ Verified
variables_next test k so_far passes =
    ap (each_from test 1) (variables_more k)
    ∙ each_append test 1 (variables k) ((k + 1) ∷ [])
    ∙ ap (λ (v : Verdict). v then each_from test (1 + length (variables k)) ((k + 1) ∷ [])) so_far
    ∙ passes_alone (1 + length (variables k)) (test (k + 1)) passes

-- the first that fails
pub variables_stop : (test : ℕ → Option Reason) (n k : ℕ) (reason : Reason) → k < n → each_from test 1 (variables k) ≡ Verified
    → test (k + 1) ≡ Some reason → each_from test 1 (variables n) ≡ NotVerified reason (k + 1)
variables_stop test n k reason lt so_far fails =
    let split = variables_split n k lt in
    let place : 1 + length (variables k) ≡ k + 1 = omega (arith, length-variables k) in
    ap (each_from test 1) split.all
    ∙ each_append test 1 (variables k) ((k + 1) ∷ split.rest)
    ∙ ap (λ (v : Verdict). v then each_from test (1 + length (variables k)) ((k + 1) ∷ split.rest)) so_far
    ∙ fails_first (1 + length (variables k)) (test (k + 1)) reason (each_from test (1 + length (variables k) + 1) split.rest) fails
    ∙ ap (λ (p : ℕ). NotVerified reason p) place

-- each is one of 1 to n
pub record IsVariable (n v : ℕ) : Type 0 where
  pub low : 0 < v
  pub high : v ≤ n

variable_of : (n v : ℕ) → Contains (variables n) v → IsVariable n v
variable_of zero v there = absurd (Contains-nil v there)
variable_of (suc n) v there = ⊎_elim
    (λ (before : Contains (variables n) v). let is = variable_of n v before in record { low = is.low; high = omega arith })
    (λ (last : Contains (suc n ∷ []) v). ⊎_elim
    (λ (is : suc n ≡ v). record { low = omega arith; high = omega arith })
    (λ (none : Contains [] v). absurd (Contains-nil v none))
    (Contains-cons_cases (suc n) [] v last))
    (Contains-append_cases (variables n) (suc n ∷ []) v there)

-- the marks of printed literals and of drop lines, which were all off, are the tests of what is covered
pub marks_cover : (F : Cnf) (fixed : Literals) (drops : List WitnessLine) (none some all : Assignment)
    → none ≡ replicate F.vars false
    → ((v : ℕ) → 0 < v → v ≤ F.vars → value_of some v ≡ (value_of none v || list_any (λ l. l.var == v) fixed))
    → ((v : ℕ) → 0 < v → v ≤ F.vars → value_of all v ≡ (value_of some v || list_any (λ d. d.lit.var == v) drops))
    → each_from (mark_fault F all) 1 (variables F.vars) ≡ each_from (cover_fault F fixed drops) 1 (variables F.vars)
marks_cover F fixed drops none some all empty first second =
    each_same (mark_fault F all) (cover_fault F fixed drops) 1 (variables F.vars)
    (λ v there.
    let is = variable_of F.vars v there in
    let off : value_of none v ≡ false =
    ap (λ (a : Assignment). value_of a v) empty ∙ get_or-replicate F.vars (v - 1) false false (omega arith) in
    let marked : value_of all v ≡ is_covered fixed drops v =
    second v is.low is.high
    ∙ ap (λ (b : Bool). b || list_any (λ (d : WitnessLine). d.lit.var == v) drops)
    (first v is.low is.high ∙ ap (λ (b : Bool). b || list_any (λ l. l.var == v) fixed) off) in
    ap (λ (b : Bool). if is_shown F v then (if b then None else Some NotCovered) else None) marked)
