-- The number that printed digits write.
use Rattle.std.proofs.Common.{◌≡◌, ℕ, ◌<◌, ◌^◌, ◌*◌, ◌+◌, ◌-◌, true, List, [], ◌∷◌, length, Some, ap, arith, rules}
use Rattle.std.specs.Prelude.{decimal, fold}
use Rattle.std.specs.List.{list_all}
use Rattle.std.specs.Char.{is_ascii_digit}
use Rattle.std.proofs.lemmas.Fmt.{digits_decimal, digits_value-decimal, decimal_nonempty}
use Rattle.std.proofs.lemmas.Str.Parse.{IsNumeralModel, numerals_by_fold}
use Rattle.cnf_core.specs.Spelling.{digits_value, number_of_digits}

own : IsNumeralModel (λ ds. list_all is_ascii_digit ds ≡ true) digits_value
own = numerals_by_fold _ (search rules) (λ n ds. fold (λ m d. m * 10 + (d - 48)) n ds) (search rules)

number_of_digits_from : (ds : List ℕ) (n : ℕ) → 0 < length ds → list_all is_ascii_digit ds ≡ true → digits_value ds ≡ n
    → number_of_digits ds ≡ Some n
number_of_digits_from [] n filled digits value = absurd (omega arith)
number_of_digits_from (d ∷ ds) n filled digits value = rw digits (ap Some value)

pub number_of_digits-decimal : (n : ℕ) → n < 2 ^ 64 → number_of_digits (decimal n) ≡ Some n
number_of_digits-decimal n small =
    number_of_digits_from (decimal n) n (decimal_nonempty n small) (digits_decimal own n small) (digits_value-decimal own n small)
