-- A small formula worked by the definitions: 1; -1 or 2; 2 or 3, over three variables.
use Rattle.std.specs.Prelude.{◌≡◌, true, false, None, [], ◌∷◌}
use Rattle.cnf_core.specs.Literals.{Literal}
use Rattle.cnf_core.specs.Formulas.{Cnf, assignments, models, backbone}

-- the literals of the example
abbrev pub one : Literal
one = record { var = 1; positive = true }

abbrev pub not_one : Literal
not_one = record { var = 1; positive = false }

abbrev pub two : Literal
two = record { var = 2; positive = true }

abbrev pub three : Literal
three = record { var = 3; positive = true }

abbrev pub chain : Cnf
chain = record { vars = 3; clauses = (one ∷ []) ∷ (not_one ∷ two ∷ []) ∷ (two ∷ three ∷ []) ∷ []; shown = None }

-- 1 is given, so 2 follows, and 3 is free
pub record ChainIsWorked : Type 0 where
  pub two_values : assignments 1 ≡ (false ∷ []) ∷ (true ∷ []) ∷ []
  pub two_models : models chain ≡ (true ∷ true ∷ false ∷ []) ∷ (true ∷ true ∷ true ∷ []) ∷ []
  pub fixed : backbone chain ≡ one ∷ two ∷ []
