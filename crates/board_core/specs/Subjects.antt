-- What a board was opened for, and what is known of its candidates.
use Rattle.std.specs.Prelude.{ℕ, ◌+◌, ◌/◌, Bool, true, false, []}
use Rattle.cnf_core.specs.Literals.{Assignment, value_of}
use Rattle.cnf_core.specs.Formulas.{Cnf, empty_formula, is_shown, IsAgainst, Entails, true_literal}

-- a formula, and the model of it that gives each candidate its phase
pub record About : Type 0 where
  pub formula : Cnf
  pub phases : Assignment

abbrev pub about : Cnf → Assignment → About
about F phases = record { formula = F; phases = phases }

-- what nothing was opened for
abbrev pub about_nothing : About
about_nothing = about (empty_formula 0) []

-- how many words have the bits of n variables, 32 to a word
abbrev pub groups : ℕ → ℕ
groups n = (n + 31) / 32

-- a truth value as a number
abbrev pub flag : Bool → ℕ
flag true = 1
flag false = 0

-- 1 where the variable is one of the formula's and shown, else 0
unfoldable pub candidate : Cnf → ℕ → ℕ
candidate F x = flag (is_shown F x)

-- some model gives the variable the value opposite to its phase
unfoldable pub Opposed : About → ℕ → Type 0
Opposed a x = (m : Assignment) × IsAgainst a.formula m x (value_of a.phases x)

-- the formula entails the variable's phase literal
unfoldable pub Entailed : About → ℕ → Type 0
Entailed a x = Entails a.formula (true_literal a.phases x)
