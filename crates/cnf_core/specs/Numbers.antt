-- Clauses as DIMACS writes them: numbers, with a 0 behind each clause.
use Rattle.std.specs.Prelude.{◌≡◌, ◌≢◌, ℕ, ◌-◌, ◌^◌, ◌<◌, ℤ, pos, unsigned_abs, List, [], ◌∷◌, ◌++◌, length, map, Option, Some, None, slice_index_or}
use Rattle.std.specs.List.{flat_map}
use Rattle.cnf_core.specs.Literals.{Literal, Literals, number_of, IsWithin}
use Rattle.cnf_core.specs.Formulas.{Cnf}
use Rattle.cnf_core.specs.declared.numbers.NumbersError.{NumbersError}
use Rattle.cnf_core.specs.declared.numbers.NumbersError.TheVariants.{TooManyVars, TooManyNumbers, NoLiteral, Unended, Memory}

-- the numbers of a clause
abbrev pub clause_numbers : Literals → List ℤ
clause_numbers c = map number_of c ++ pos 0 ∷ []

-- the formula has the clauses that the numbers write, and shows all its variables
pub record IsWritten (vars : ℕ) (numbers : List ℤ) (F : Cnf) : Type 0 where
  pub vars_are : F.vars ≡ vars
  pub clauses_are : flat_map clause_numbers F.clauses ≡ numbers
  pub all_shown : F.shown ≡ None

-- the number writes the literal, whose variable is one of 1 to vars, or it is 0
abbrev pub Writes : Option Literal → ℕ → ℤ → Type 0
Writes None vars z = z ≡ pos 0
Writes (Some l) vars z = (number_of l ≡ z) × IsWithin vars l

-- why numbers write no formula
abbrev pub NumbersSay : NumbersError → ℕ → List ℤ → Type 0
NumbersSay TooManyVars vars numbers = 2 ^ 20 < vars
NumbersSay TooManyNumbers vars numbers = 2 ^ 21 < length numbers
NumbersSay (NoLiteral place) vars numbers = (place < length numbers) × (vars < unsigned_abs (slice_index_or numbers place (pos 0)))
NumbersSay Unended vars numbers = (0 < length numbers) × (slice_index_or numbers (length numbers - 1) (pos 0) ≢ pos 0)
NumbersSay Memory vars numbers = Unit {0}
