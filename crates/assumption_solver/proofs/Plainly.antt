-- A clause that was sorted by packed literals and left without doubles.
--
-- risen               the same members, in rising order
-- risen_once          where no neighbours have one variable, each variable stands in it once
-- risen_tautology     where some have, they are a literal and its negation
use Rattle.std.proofs.Common.{◌≡◌, ◌≢◌, ℕ, ◌+◌, ◌-◌, ◌<◌, ◌≤◌, Bool, true, false, not, [], length, get_or, Contains, Less, sym, ap, ◌∙◌}
use Rattle.std.proofs.Common.{subst, ⊎_elim, arith}
use Rattle.std.specs.List.{dedup}
use Rattle.std.specs.List.Sorted.{IsPermutation, IsSorted}
use Rattle.std.specs.List.Retain.{IsFiltered, DiffersFromLast}
use Rattle.std.specs.Ordering.{nat_cmp, on}
use Rattle.std.specs.Cmp.{IsTotalOrder, IsEquivalence, unsigned_ties}
use Rattle.std.proofs.Common.{nat_eq, eqb-true}
use Rattle.std.proofs.lemmas.Cmp.{on_total, on_equiv, nat_cmp_total, nat_eq_equiv, ranked}
use Rattle.std.proofs.lemmas.List.Filters.{dedup_is}
use Rattle.std.proofs.lemmas.List.Kept.{IsStrictlySortedBy-dedup, Contains-dedup, Contains-from_dedup}
use Rattle.std.proofs.lemmas.List.Sorted.{Contains-permutation, IsPermutation-sym}
use Rattle.std.proofs.lemmas.Bool.{cases_lt}
use Rattle.std.proofs.lemmas.List.{get_or_default}
use Rattle.std.proofs.lemmas.List.Elements.{Contains-get_or}
use Rattle.std.proofs.lemmas.Map.Keys.{Less-from_sorted}
use Rattle.cnf_core.specs.Literals.{Literal, Literals, code_of, negated}
use Rattle.clause_arena.specs.Entries.{no_literal}
use Rattle.trail_core.proofs.Literals.{same_code, code_le}
use Rattle.lrat_lines.specs.Sets.{IsSameSet}
use Rattle.assumption_solver.specs.Steps.Standing.{IsTautology}
use Rattle.assumption_solver.specs.Steps.Loading.{IsEachOnce}

-- the members of a list, each once, in the order of their packed forms
pub record IsRisen (d c : Literals) : Type 0 where
  pub same : IsSameSet d c
  pub rises : (i j : ℕ) → i < j → j < length c → code_of (get_or c i no_literal) < code_of (get_or c j no_literal)

less_is : (m n : ℕ) → nat_cmp m n ≡ Less → m < n
less_is m n h = ranked m n Less (sym h)

pub risen : (d s c : Literals) → IsPermutation d s → IsSorted (on code_of nat_cmp) s
    → IsFiltered (DiffersFromLast (on code_of nat_eq)) [] s c
    → IsRisen d c
risen d s c moved sorted filtered =
    let is : c ≡ dedup (on code_of nat_eq) s = dedup_is (on code_of nat_eq) s c filtered in
    let equal : IsEquivalence (on code_of nat_eq) = on_equiv code_of nat_eq_equiv in
    let total : IsTotalOrder (on code_of nat_cmp) = on_total code_of nat_cmp_total in
    subst (IsRisen d) (sym is) (record {
      same = record {
        forth = λ l h. Contains-dedup equal (λ x y e. same_code x y (eqb-true (code_of x) (code_of y) e)) s l
            (Contains-permutation d s l moved h);
        back = λ l h. Contains-permutation s d l (IsPermutation-sym d s moved) (Contains-from_dedup (on code_of nat_eq) s l h);
      };
      rises = λ i j lt within. less_is (code_of (get_or (dedup (on code_of nat_eq) s) i no_literal))
          (code_of (get_or (dedup (on code_of nat_eq) s) j no_literal))
          (Less-from_sorted (on code_of nat_cmp) (dedup (on code_of nat_eq) s) i j no_literal
          (IsStrictlySortedBy-dedup total (λ x y. unsigned_ties (code_of x) (code_of y)) s sorted) lt within);
    })

-- ---- neighbours

var_le : (k l : Literal) → code_of k ≤ code_of l → k.var ≤ l.var
var_le k l le = omega (arith, le, code_le l)

turned : (v u : ℕ) (b p : Bool) → v ≡ u → code_of (record { var = v; positive = b }) < code_of (record { var = u; positive = p })
    → (let l : Literal = record { var = u; positive = p } in l) ≡ record { var = v; positive = not b }
turned v u true true same lt = absurd (omega (arith, same, lt))
turned v u true false same lt = ap (λ (n : ℕ). record { var = n; positive = false }) (sym same)
turned v u false true same lt = absurd (omega (arith, same, lt))
turned v u false false same lt = absurd (omega (arith, same, lt))

-- no two neighbours among the first places have one variable
abbrev pub AreApart : Literals → ℕ → Type 0
AreApart c n = (k : ℕ) → 0 < k → k < n → (get_or c (k - 1) no_literal).var ≢ (get_or c k no_literal).var

pub risen_once : (d c : Literals) → IsRisen d c → AreApart c (length c) → IsEachOnce c
risen_once d c r apart i j e lt within same =
    let first : get_or c i e ≡ get_or c i no_literal = get_or_default c i e no_literal (omega (arith, lt, within)) in
    let last : get_or c j e ≡ get_or c j no_literal = get_or_default c j e no_literal within in
    let one : (get_or c i no_literal).var ≡ (get_or c j no_literal).var =
    ap (λ (l : Literal). l.var) (sym first) ∙ same ∙ ap (λ (l : Literal). l.var) last in
    let n = i + 1 in
    let low : (get_or c i no_literal).var ≤ (get_or c n no_literal).var =
    var_le (get_or c i no_literal) (get_or c n no_literal) (omega (arith, r.rises i n (omega arith) (omega (arith, lt, within)))) in
    let high : (get_or c n no_literal).var ≤ (get_or c j no_literal).var =
    ⊎_elim
    (λ (before : n < j). var_le (get_or c n no_literal) (get_or c j no_literal) (omega (arith, r.rises n j before within)))
    (λ (past : j ≤ n). let at : n ≡ j = omega (arith, past, lt) in
    subst (λ (m : ℕ). (get_or c n no_literal).var ≤ (get_or c m no_literal).var) at (omega arith))
    (cases_lt n j) in
    let place : n - 1 ≡ i = omega arith in
    apart n (omega arith) (omega (arith, lt, within))
    (ap (λ (m : ℕ). (get_or c m no_literal).var) place ∙ (let e : (get_or c i no_literal).var ≡ (get_or c n no_literal).var = omega
    (arith, one, low, high) in e))

pub risen_tautology : (d c : Literals) (k : ℕ) → IsRisen d c → 0 < k → k < length c
    → (get_or c (k - 1) no_literal).var ≡ (get_or c k no_literal).var → IsTautology d
risen_tautology d c k r low within same =
    let x = get_or c (k - 1) no_literal in
    let y = get_or c k no_literal in
    let is : y ≡ negated x = turned x.var y.var x.positive y.positive same (r.rises (k - 1) k (omega (arith, low)) within) in record {
      literal = x;
      member = r.same.back x (Contains-get_or c (k - 1) no_literal (omega (arith, low, within)));
      other = r.same.back (negated x) (subst (Contains c) is (Contains-get_or c k no_literal within));
    }

-- the variable of a place, as it is read
pub var_read : (c : Literals) (k v : ℕ) (x : Literal) → k < length c → v ≡ x.var → x ≡ get_or c k x → v ≡ (get_or c k no_literal).var
var_read c k v x lt is read = is ∙ ap (λ (l : Literal). l.var) (read ∙ get_or_default c k x no_literal lt)
