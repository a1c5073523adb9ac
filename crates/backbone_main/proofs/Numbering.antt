-- The assignment with a number, and the number of an assignment.
use Rattle.std.proofs.Common.{◌≡◌, ℕ, zero, suc, ◌+◌, ◌-◌, ◌*◌, ◌/◌, ◌%◌, ◌^◌, ◌<◌, ◌≤◌, ◌==◌, Bool, true, false, if◌then◌else◌, []}
use Rattle.std.proofs.Common.{◌∷◌, ◌++◌, length, set, take, refl, sym, ap, ◌∙◌, ap₂, append-nil, append_assoc, take_all, length-set}
use Rattle.std.proofs.Common.{pow-suc, eq-eqb, ne_eqb, arith}
use Rattle.std.proofs.lemmas.List.{take_more_set}
use Rattle.cnf_core.specs.Literals.{Assignment}
use Rattle.backbone_main.specs.Steps.Numbered.{assignment_at}

pub length-assignment_at : (n number : ℕ) → length (assignment_at n number) ≡ n
length-assignment_at zero number = refl
length-assignment_at (suc n) number = ap suc (length-assignment_at n (number / 2))

-- the first i of the n values are written, and the rest of the number gives the others
pub record IsWritten (n number i rest : ℕ) (values : Assignment) : Type 0 where
  pub long : length values ≡ n
  pub written : assignment_at n number ≡ take i values ++ assignment_at (n - i) rest

pub IsWritten-more : (n number i rest : ℕ) (values : Assignment) → i < n → IsWritten n number i rest values
    → IsWritten n number (i + 1) (rest / 2) (set values i (rest % 2 == 1))
IsWritten-more n number i rest values below before =
    let left : n - i ≡ suc (n - (i + 1)) = omega arith in
    let value : Bool = rest % 2 == 1 in
    let more : take (i + 1) (set values i value) ≡ take i values ++ value ∷ [] =
    take_more_set values i value (omega (arith, before.long)) in
    record {
      long = simp length-set before.long;
      written = before.written
          ∙ ap (λ k. take i values ++ assignment_at k rest) left
          ∙ sym (append_assoc (take i values) (value ∷ []) (assignment_at (n - (i + 1)) (rest / 2)))
          ∙ ap (λ front. front ++ assignment_at (n - (i + 1)) (rest / 2)) (sym more);
    }

pub IsWritten-all : (n number i rest : ℕ) (values : Assignment) → n ≤ i → IsWritten n number i rest values
    → values ≡ assignment_at n number
IsWritten-all n number i rest values past before =
    let none : n - i ≡ 0 = omega arith in
    sym (before.written
    ∙ ap (λ k. take i values ++ assignment_at k rest) none
    ∙ append-nil (take i values)
    ∙ take_all i values (omega (arith, before.long)))

-- the number of the assignment
abbrev pub number_of_values : Assignment → ℕ
number_of_values [] = 0
number_of_values (value ∷ a) = (if value then 1 else 0) + 2 * number_of_values a

pub assignment_at-number_of_values : (a : Assignment) → assignment_at (length a) (number_of_values a) ≡ a
assignment_at-number_of_values [] = refl
assignment_at-number_of_values (value ∷ a) =
    ap₂ (λ b rest. b ∷ rest)
    (low value (number_of_values a))
    (ap (assignment_at (length a)) (half value (number_of_values a)) ∙ assignment_at-number_of_values a)
  where
    low : (value : Bool) (m : ℕ) → (((if value then 1 else 0) + 2 * m) % 2 == 1) ≡ value
    low true m = eq-eqb ((1 + 2 * m) % 2) 1 (omega arith)
    low false m = ne_eqb ((0 + 2 * m) % 2) 1 (λ e. omega arith)

    half : (value : Bool) (m : ℕ) → ((if value then 1 else 0) + 2 * m) / 2 ≡ m
    half true m = omega arith
    half false m = omega arith

pub number_of_values-lt : (a : Assignment) → number_of_values a < 2 ^ length a
number_of_values-lt [] = omega arith
number_of_values-lt (value ∷ a) =
    let below : number_of_values a < 2 ^ length a = number_of_values-lt a in
    let bit : (if value then 1 else 0) ≤ 1 = bit_le value in
    rw pow-suc (omega arith)
  where
    bit_le : (value : Bool) → (if value then 1 else 0) ≤ 1
    bit_le true = omega arith
    bit_le false = omega arith
