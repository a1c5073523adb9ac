-- Each clause over n variables has a number of n digits in base 3, by which one finds the clauses that are
-- parts of it. So there are fewer than 3 ^ n clauses of which none is a part of a later one.
use Rattle.std.proofs.Common.{◌≡◌, ℕ, zero, suc, ◌+◌, ◌*◌, ◌^◌, ◌<◌, ◌≤◌, Bool, true, false, eqb, List, [], ◌∷◌, length, get_or, Contains}
use Rattle.std.proofs.Common.{map, refl, sym, ap, ◌∙◌, subst, inl, inr, ⊎_elim, arith}
use Rattle.std.specs.Prelude.{All, AllPairs}
use Rattle.std.specs.List.{IsDistinct}
use Rattle.std.proofs.Math.Nat.{pow-suc}
use Rattle.std.proofs.lemmas.Bool.{cases_Bool, cases_eq, eqb-true, ne_eqb, true≢false}
use Rattle.std.proofs.lemmas.List.{length-map, get_or-map}
use Rattle.std.proofs.lemmas.List.Elements.{All-contains, All-from_get_or, All-map, All-get_or, Contains-get_or}
use Rattle.std.proofs.lemmas.Map.Keys.{IsDistinct-from_apart}
use Rattle.std.proofs.lemmas.Map.Steps.{length-le_from_distinct_below}
use Rattle.cnf_core.specs.Literals.{Literal, Literals, IsWithin}
use Rattle.cnf_core.proofs.Lists.{Contains-nil, member_of_list_any}
use Rattle.lrat_lines.specs.Sets.{has}
use Rattle.lrat_lines.proofs.LiteralSets.{Contains_of_has, has_of_Contains, has-false}
use Rattle.lrat_lines.specs.Sets.{IsSubset}
use Rattle.lrat_log.specs.Laws.{IsProper, IsNoPart, FreshClausesAreFew}

-- the two literals of a variable
abbrev plus : ℕ → Literal
plus v = record { var = v; positive = true }

abbrev minus : ℕ → Literal
minus v = record { var = v; positive = false }

-- 1 where the variable stands in the clause, 2 where its negation alone does, 0 where neither does
abbrev digit_of : Bool → Bool → ℕ
digit_of true n = 1
digit_of false true = 2
digit_of false false = 0

digit-le : (p n : Bool) → digit_of p n ≤ 2
digit-le true n = omega arith
digit-le false true = omega arith
digit-le false false = omega arith

abbrev digit : Literals → ℕ → ℕ
digit c v = digit_of (has c (plus v)) (has c (minus v))

-- the number whose digits these are, for the variables 1 to n
abbrev number : Literals → ℕ → ℕ
number c zero = 0
number c (suc n) = 3 * number c n + digit c (suc n)

number_below : (c : Literals) (n : ℕ) → number c n < 3 ^ n
number_below c zero = omega arith
number_below c (suc n) =
    let d : digit c (suc n) ≤ 2 = digit-le (has c (plus (suc n))) (has c (minus (suc n))) in
    omega (arith, number_below c n, pow-suc 3 n)

same_digits : (c d : Literals) (n : ℕ) → number c n ≡ number d n → (v : ℕ) → 0 < v → v ≤ n → digit c v ≡ digit d v
same_digits c d zero same v low high = absurd (omega arith)
same_digits c d (suc n) same v low high =
    let x : digit c (suc n) ≤ 2 = digit-le (has c (plus (suc n))) (has c (minus (suc n))) in
    let y : digit d (suc n) ≤ 2 = digit-le (has d (plus (suc n))) (has d (minus (suc n))) in
    let last : digit c (suc n) ≡ digit d (suc n) = omega arith in
    let rest : number c n ≡ number d n = omega arith in
    ⊎_elim
    (λ (at : v ≡ suc n). subst (λ (k : ℕ). digit c k ≡ digit d k) (sym at) last)
    (λ (other : v ≡ suc n → ⊥). same_digits c d n rest v low (omega arith))
    (cases_eq v (suc n))

-- which literals a digit tells of
digit_one : (p n q m : Bool) → p ≡ true → digit_of p n ≡ digit_of q m → q ≡ true
digit_one true n true m here same = refl
digit_one true n false true here same = absurd (omega arith)
digit_one true n false false here same = absurd (omega arith)
digit_one false n q m here same = absurd (true≢false (sym here))

digit_two : (p n q m : Bool) → p ≡ false → n ≡ true → digit_of p n ≡ digit_of q m → m ≡ true
digit_two true n q m none here same = absurd (true≢false none)
digit_two false false q m none here same = absurd (true≢false (sym here))
digit_two false true true m none here same = absurd (omega arith)
digit_two false true false true none here same = refl
digit_two false true false false none here same = absurd (omega arith)

-- a clause with the number of another is a part of it
part_by_number : (n : ℕ) (d c : Literals) → IsProper n d → number d n ≡ number c n → IsSubset d c
part_by_number n d c proper same l there =
    let within : IsWithin n l = All-contains (IsWithin n) d l proper.within there in
    let digits : digit d l.var ≡ digit c l.var = same_digits d c n same l.var within.low within.high in
    elim (cases_Bool l.positive) [
      | inl positive ↦
          (let is : l ≡ plus l.var = ap (λ (p : Bool). record { var = l.var; positive = p }) positive in
          subst (λ (k : Literal). Contains c k) (sym is)
          (Contains_of_has c (plus l.var)
          (digit_one _ _ _ _ (has_of_Contains d (plus l.var) (subst (λ (k : Literal). Contains d k) is there)) digits)))
      | inr negative ↦
          (let is : l ≡ minus l.var = ap (λ (p : Bool). record { var = l.var; positive = p }) negative in
          let here : Contains d (minus l.var) = subst (λ (k : Literal). Contains d k) is there in
          subst (λ (k : Literal). Contains c k) (sym is)
          (Contains_of_has c (minus l.var)
          (digit_two _ _ _ _
          (has-false d (plus l.var) (λ both. proper.plain (plus l.var) both here))
          (has_of_Contains d (minus l.var) here) digits)))
    ]

-- the numbers of the empty clause and of these
abbrev numbers : ℕ → List Literals → List ℕ
numbers n cs = map (λ (c : Literals). number c n) ([] ∷ cs)

numbers_below : (n : ℕ) (cs : List Literals) → All (λ x. x < 3 ^ n) (numbers n cs)
numbers_below n cs =
    All-map (λ (x : ℕ). x < 3 ^ n) (λ (c : Literals). number c n) ([] ∷ cs)
    (All-from_get_or (λ (c : Literals). number c n < 3 ^ n) ([] ∷ cs) [] (λ i within. number_below (get_or ([] ∷ cs) i []) n))

-- of two of these clauses the one that comes first has another number
apart : (n : ℕ) (cs : List Literals) → All (IsProper n) cs → AllPairs IsNoPart cs → (i j : ℕ) → i < j → j < length ([] ∷ cs)
    → number (get_or ([] ∷ cs) i []) n ≡ number (get_or ([] ∷ cs) j []) n → ⊥
apart n cs proper new i zero before within same = absurd (omega arith)
apart n cs proper new zero (suc j) before within same =
    let c = get_or cs j [] in
    let here : IsProper n c = All-get_or (IsProper n) cs j [] (omega arith) proper in
    let some : 0 < length c = here.some in
    let first : Contains c (get_or c 0 (plus 0)) = Contains-get_or c 0 (plus 0) some in
    Contains-nil (get_or c 0 (plus 0)) (part_by_number n c [] here (sym same) (get_or c 0 (plus 0)) first)
apart n cs proper new (suc i) (suc j) before within same =
    new i j [] (omega arith) (omega arith)
    (part_by_number n (get_or cs i []) (get_or cs j []) (All-get_or (IsProper n) cs i [] (omega arith) proper) same)

pub fresh_clauses_are_few : FreshClausesAreFew
fresh_clauses_are_few n cs proper new =
    let ks = numbers n cs in
    let size : length ks ≡ length ([] ∷ cs) = length-map ([] ∷ cs) (λ (c : Literals). number c n) in
    let read : (i : ℕ) (d : ℕ) → i < length ([] ∷ cs) → get_or ks i d ≡ number (get_or ([] ∷ cs) i []) n =
    λ i d within. get_or-map (λ (c : Literals). number c n) ([] ∷ cs) i [] d within in
    let distinct : IsDistinct eqb ks =
    IsDistinct-from_apart eqb ks (λ i j d before within.
    ne_eqb (get_or ks i d) (get_or ks j d) (λ same.
    apart n cs proper new i j before (omega arith)
    (sym (read i d (omega arith)) ∙ same ∙ read j d (omega arith))))
    in
    let most : length ks ≤ 3 ^ n =
    length-le_from_distinct_below ks (3 ^ n) distinct (λ q some.
    let (x, there, same) = member_of_list_any (eqb q) ks some in
    let below : x < 3 ^ n = All-contains (λ (y : ℕ). y < 3 ^ n) ks x (numbers_below n cs) there in
    omega (arith, eqb-true q x same))
    in
    omega arith
