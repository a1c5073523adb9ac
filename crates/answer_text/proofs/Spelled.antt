-- What was read is the text of what it says.
use Rattle.std.proofs.Common.{◌≡◌, ℕ, zero, suc, ◌+◌, ◌-◌, ◌*◌, ◌<◌, ◌≤◌, ◌^◌, Bool, true, false, List, [], ◌∷◌, ◌++◌, Option, Some, None, refl, sym, ◌∙◌, ap, subst, arith, rules}
use Rattle.std.specs.Prelude.{fold, if◌then◌else◌, nat_le, ◌==◌, ◌&&◌, decimal, IfSome}
use Rattle.std.specs.List.{list_all}
use Rattle.std.specs.Char.{is_ascii_digit}
use Rattle.std.proofs.lemmas.Bool.{leb-true, eqb-true, eqb-false, and_parts}
use Rattle.std.proofs.lemmas.Fmt.{decimal-digits_value}
use Rattle.std.proofs.lemmas.Str.Parse.{IsNumeralModel, numerals_by_fold}
use Rattle.cnf_core.specs.Literals.{Literal, IsWithin}
use Rattle.cnf_core.specs.Spelling.{digits_value, number_of_digits, literal_text}
use Rattle.answer_text.specs.Reading.{up_to, variable_of, signed_literal, literal_of, line_literal}
use Rattle.answer_text.specs.AnswerText.{literal_line}
use Rattle.answer_text.proofs.Digits.{variable_range}

own : IsNumeralModel (λ ds. list_all is_ascii_digit ds ≡ true) digits_value
own = numerals_by_fold _ (search rules) (λ n ds. fold (λ m d. m * 10 + (d - 48)) n ds) (search rules)

module _ (vars d : ℕ) (ds : List ℕ) (n : ℕ) (small : vars ≤ 2 ^ 20) where
  by_size : (t : Bool) → nat_le (digits_value (d ∷ ds)) vars ≡ t → (if t then Some (digits_value (d ∷ ds)) else None) ≡ Some n
      → (digits_value (d ∷ ds) ≡ n) × (digits_value (d ∷ ds) ≤ vars)
  by_size true is e = (cc e, leb-true (digits_value (d ∷ ds)) vars is)
  by_size false is e = absurd (cc e)

  spelled_by : list_all is_ascii_digit (d ∷ ds) ≡ true → (d ≡ 48 → ⊥) → digits_value (d ∷ ds) ≤ vars → decimal (digits_value (d ∷ ds)) ≡ d ∷ ds
  spelled_by digits other le =
      decimal-digits_value own (d ∷ ds) digits (omega arith) (λ (e : d ≡ 48). absurd (other e)) (omega (arith, le, small))

  by_digits : (t : Bool) → list_all is_ascii_digit (d ∷ ds) ≡ t → (d ≡ 48 → ⊥) → up_to vars (if t then Some (digits_value (d ∷ ds)) else None) ≡ Some n
      → (n ≤ vars) × (decimal n ≡ d ∷ ds)
  by_digits true digits other e =
      let p = by_size (nat_le (digits_value (d ∷ ds)) vars) refl e in (
        omega (arith, p.0, p.1),
        ap decimal (sym p.0) ∙ spelled_by digits other p.1,
      )
  by_digits false digits other e = absurd (cc e)

  by_zero : (t : Bool) → (d == 48) ≡ t → (if t then None else up_to vars (number_of_digits (d ∷ ds))) ≡ Some n → (n ≤ vars) × (decimal n ≡ d ∷ ds)
  by_zero true is e = absurd (cc e)
  by_zero false is e = by_digits (list_all is_ascii_digit (d ∷ ds)) refl (eqb-false d 48 is) e

pub variable_spelled : (vars : ℕ) (bytes : List ℕ) (n : ℕ) → vars ≤ 2 ^ 20 → variable_of vars bytes ≡ Some n → (n ≤ vars) × (decimal n ≡ bytes)
variable_spelled vars [] n small e = absurd (cc e)
variable_spelled vars (d ∷ ds) n small e = by_zero vars d ds n small (d == 48) refl e

literal_text-negative : (v : ℕ) → 0 < v → literal_text (record { var = v; positive = false }) ≡ 45 ∷ decimal v
literal_text-negative zero some = absurd (omega arith)
literal_text-negative (suc n) some = refl

some_is : (k l : Literal) → Some k ≡ Some l → k ≡ l
some_is k l e = cc e

-- what a literal that was read is
pub record IsLiteral (vars : ℕ) (bytes : List ℕ) (l : Literal) : Type 0 where
  pub within : IsWithin vars l
  pub spelled : bytes ≡ literal_text l

positive_of : (vars : ℕ) (bytes : List ℕ) (l : Literal) (o : Option ℕ) → vars ≤ 2 ^ 20 → variable_of vars bytes ≡ o
    → signed_literal true o ≡ Some l → IsLiteral vars bytes l
positive_of vars bytes l None small is e = absurd (cc e)
positive_of vars bytes l (Some n) small is e =
    let p = variable_spelled vars bytes n small is in
    let range = subst (λ (o : Option ℕ). IfSome o (λ v. (0 < v) × (v ≤ vars))) is (variable_range vars bytes) in
    subst (IsLiteral vars bytes) (some_is (record { var = n; positive = true }) l e)
    (record { within = record { low = range.0; high = range.1 }; spelled = sym p.1 })

negative_of : (vars : ℕ) (bytes : List ℕ) (l : Literal) (o : Option ℕ) → vars ≤ 2 ^ 20 → variable_of vars bytes ≡ o
    → signed_literal false o ≡ Some l → IsLiteral vars (45 ∷ bytes) l
negative_of vars bytes l None small is e = absurd (cc e)
negative_of vars bytes l (Some n) small is e =
    let p = variable_spelled vars bytes n small is in
    let range = subst (λ (o : Option ℕ). IfSome o (λ v. (0 < v) × (v ≤ vars))) is (variable_range vars bytes) in
    subst (IsLiteral vars (45 ∷ bytes)) (some_is (record { var = n; positive = false }) l e)
    (record {
      within = record { low = range.0; high = range.1 };
      spelled = ap (λ (ds : List ℕ). 45 ∷ ds) (sym p.1) ∙ sym (literal_text-negative n range.0);
    })

by_sign : (vars b : ℕ) (bs : List ℕ) (l : Literal) (t : Bool) → vars ≤ 2 ^ 20 → (b == 45) ≡ t
    → (if t then signed_literal false (variable_of vars bs) else signed_literal true (variable_of vars (b ∷ bs))) ≡ Some l → IsLiteral vars (b ∷ bs) l
by_sign vars b bs l true small is e =
    subst (λ (c : ℕ). IsLiteral vars (c ∷ bs) l) (sym (eqb-true b 45 is)) (negative_of vars bs l (variable_of vars bs) small refl e)
by_sign vars b bs l false small is e = positive_of vars (b ∷ bs) l (variable_of vars (b ∷ bs)) small refl e

pub literal_spelled : (vars : ℕ) (bytes : List ℕ) (l : Literal) → vars ≤ 2 ^ 20 → literal_of vars bytes ≡ Some l → IsLiteral vars bytes l
literal_spelled vars [] l small e = absurd (cc e)
literal_spelled vars (b ∷ bs) l small e = by_sign vars b bs l (b == 45) small refl e

-- a line of a literal, with its line feed
pub record IsLineOf (vars letter : ℕ) (bytes : List ℕ) (l : Literal) : Type 0 where
  pub within : IsWithin vars l
  pub spelled : bytes ++ 10 ∷ [] ≡ literal_line letter l

by_letter : (vars letter a b : ℕ) (bs : List ℕ) (l : Literal) (t : Bool) → vars ≤ 2 ^ 20 → ((a == letter) && (b == 32)) ≡ t
    → (if t then literal_of vars bs else None) ≡ Some l → IsLineOf vars letter (a ∷ b ∷ bs) l
by_letter vars letter a b bs l true small is e =
    let p = and_parts (a == letter) (b == 32) is in
    let lit = literal_spelled vars bs l small e in
    record {
      within = lit.within;
      spelled = ap (λ (x : ℕ). x ∷ b ∷ (bs ++ 10 ∷ [])) (eqb-true a letter p.0)
          ∙ ap (λ (x : ℕ). letter ∷ x ∷ (bs ++ 10 ∷ [])) (eqb-true b 32 p.1)
          ∙ ap (λ (ds : List ℕ). letter ∷ 32 ∷ (ds ++ 10 ∷ [])) lit.spelled;
    }
by_letter vars letter a b bs l false small is e = absurd (cc e)

pub line_spelled : (vars letter : ℕ) (bytes : List ℕ) (l : Literal) → vars ≤ 2 ^ 20 → line_literal vars letter bytes ≡ Some l → IsLineOf vars letter bytes l
line_spelled vars letter [] l small e = absurd (cc e)
line_spelled vars letter (a ∷ []) l small e = absurd (cc e)
line_spelled vars letter (a ∷ b ∷ bs) l small e = by_letter vars letter a b bs l ((a == letter) && (b == 32)) small refl e
