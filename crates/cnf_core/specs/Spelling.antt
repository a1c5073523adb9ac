-- How a literal is written, and which number digits write.
use Rattle.std.specs.Prelude.{ℕ, ◌+◌, ◌-◌, ◌*◌, if◌then◌else◌, List, [], ◌∷◌, fold, Option, Some, None}
use Rattle.std.specs.List.{list_all}
use Rattle.std.specs.Char.{is_ascii_digit}
use Rattle.std.specs.Fmt.{signed_decimal}
use Rattle.cnf_core.specs.Literals.{Literal, number_of}

-- its number in decimal digits, without leading zeros, and with a minus sign where it is negated
abbrev pub literal_text : Literal → List ℕ
literal_text l = signed_decimal (number_of l)

-- the number that decimal digits write
abbrev pub digits_value : List ℕ → ℕ
digits_value ds = fold (λ n d. n * 10 + (d - 48)) 0 ds

-- the number that one or more digits write, with leading zeros too; other bytes write none
abbrev pub number_of_digits : List ℕ → Option ℕ
number_of_digits [] = None
number_of_digits (d ∷ ds) =
    if list_all is_ascii_digit (d ∷ ds) then Some (digits_value (d ∷ ds)) else None
