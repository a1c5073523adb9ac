-- The numbers that tokens spell.
use Rattle.std.specs.Prelude.{ℕ, ◌-◌, ◌^◌, ◌==◌, min, true, false, if◌then◌else◌, List}
use Rattle.std.specs.Prelude.{[], ◌∷◌, Option, Some, None, option_and_then}
use Rattle.cnf_core.specs.Literals.{Literal}
use Rattle.cnf_core.specs.Spelling.{number_of_digits}

-- the negative literal of a variable, which isn't 0
abbrev pub negative_of : ℕ → Option Literal
negative_of n = if n == 0 then None else Some (record { var = n; positive = false })

abbrev pub positive_of : ℕ → Option Literal
positive_of n = Some (record { var = n; positive = true })

-- what a token of a clause stands for: digits for a variable, and a minus sign with digits for its
-- negation. Zeros alone are the variable 0, which ends a clause and has no negation. Other bytes
-- stand for none
abbrev pub literal_of : List ℕ → Option Literal
literal_of [] = None
literal_of (b ∷ bs) =
    if b == 45 then option_and_then negative_of (number_of_digits bs)
    else option_and_then positive_of (number_of_digits (b ∷ bs))

-- a number, or the greatest of 32 bits where it is greater
abbrev pub capped : ℕ → ℕ
capped n = min n (2 ^ 32 - 1)
