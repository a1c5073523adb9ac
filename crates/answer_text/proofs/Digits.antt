-- Numbers that are read digit by digit.
use Rattle.std.proofs.Common.{◌≡◌, ℕ, ◌+◌, ◌-◌, ◌*◌, ◌<◌, ◌≤◌, Bool, true, false, List, [], ◌∷◌, ◌++◌, length, take, drop, Some, None, refl, sym, ◌∙◌, ap, subst, arith, get_or, take-append-drop}
use Rattle.std.specs.Prelude.{fold, if◌then◌else◌, nat_le, ◌==◌, IfSome}
use Rattle.std.specs.List.{list_all}
use Rattle.std.specs.Char.{is_ascii_digit}
use Rattle.std.proofs.lemmas.Bool.{lt-leb, leb-true, eqb-false, and_parts}
use Rattle.std.proofs.lemmas.List.{take_more}
use Rattle.std.proofs.lemmas.List.Sums.{fold-append}
use Rattle.cnf_core.specs.Spelling.{digits_value, number_of_digits}
use Rattle.answer_text.specs.Reading.{up_to, variable_of}

abbrev with_digit : ℕ → ℕ → ℕ
with_digit n d = n * 10 + (d - 48)

-- more digits make no less of a number
fold_grows : (n : ℕ) (ds : List ℕ) → n ≤ fold with_digit n ds
fold_grows n [] = omega arith
fold_grows n (d ∷ ds) = let more = fold_grows (with_digit n d) ds in omega (arith, more)

fold_behind : (n : ℕ) (xs ys : List ℕ) → fold with_digit n xs ≤ fold with_digit n (xs ++ ys)
fold_behind n [] ys = fold_grows n ys
fold_behind n (x ∷ xs) ys = fold_behind (with_digit n x) xs ys

front_less : (i : ℕ) (bytes : List ℕ) → digits_value (take i bytes) ≤ digits_value bytes
front_less i bytes =
    subst (λ (all : List ℕ). digits_value (take i bytes) ≤ digits_value all) (take-append-drop i bytes) (fold_behind 0 (take i bytes) (drop i bytes))

past_some : (t : Bool) (vars v : ℕ) → vars < v → up_to vars (if t then Some v else None) ≡ None
past_some true vars v past = ap (λ (t : Bool). if t then Some v else None) (lt-leb v vars past)
past_some false vars v past = refl

past_whole : (bytes : List ℕ) (vars : ℕ) → vars < digits_value bytes → up_to vars (number_of_digits bytes) ≡ None
past_whole [] vars past = refl
past_whole (d ∷ ds) vars past = past_some (list_all is_ascii_digit (d ∷ ds)) vars (digits_value (d ∷ ds)) past

-- digits of which the first write too much
pub past : (bytes : List ℕ) (i vars : ℕ) → vars < digits_value (take i bytes) → None ≡ up_to vars (number_of_digits bytes)
past bytes i vars high = sym (past_whole bytes vars (omega (arith, high, front_less i bytes)))

-- one digit more
pub digits_more : (bytes : List ℕ) (i : ℕ) → i < length bytes
    → digits_value (take (i + 1) bytes) ≡ digits_value (take i bytes) * 10 + (get_or bytes i 0 - 48)
digits_more bytes i lt =
    ap digits_value (take_more bytes i 0 lt) ∙ fold-append with_digit 0 (take i bytes) (get_or bytes i 0 ∷ [])

-- what is written without a leading zero is a variable from 1 on
module _ (vars d : ℕ) (ds : List ℕ) where
  by_size : (t : Bool) → nat_le (digits_value (d ∷ ds)) vars ≡ t → 48 < d
      → IfSome (if t then Some (digits_value (d ∷ ds)) else None) (λ v. (0 < v) × (v ≤ vars))
  by_size true is high = (omega (arith, high, fold_grows (with_digit 0 d) ds), leb-true (digits_value (d ∷ ds)) vars is)
  by_size false is high = tt

  by_digits : (t : Bool) → list_all is_ascii_digit (d ∷ ds) ≡ t → (d ≡ 48 → ⊥)
      → IfSome (up_to vars (if t then Some (digits_value (d ∷ ds)) else None)) (λ v. (0 < v) × (v ≤ vars))
  by_digits true is other =
      let digit = and_parts (nat_le 48 d) (nat_le d 57) (and_parts (is_ascii_digit d) (list_all is_ascii_digit ds) is).0 in
      by_size (nat_le (digits_value (d ∷ ds)) vars) refl (omega (arith, leb-true 48 d digit.0, other))
  by_digits false is other = tt

  by_zero : (t : Bool) → (d == 48) ≡ t → IfSome (if t then None else up_to vars (number_of_digits (d ∷ ds))) (λ v. (0 < v) × (v ≤ vars))
  by_zero true is = tt
  by_zero false is = by_digits (list_all is_ascii_digit (d ∷ ds)) refl (eqb-false d 48 is)

pub variable_range : (vars : ℕ) (bytes : List ℕ) → IfSome (variable_of vars bytes) (λ v. (0 < v) × (v ≤ vars))
variable_range vars [] = tt
variable_range vars (d ∷ ds) = by_zero vars d ds (d == 48) refl
