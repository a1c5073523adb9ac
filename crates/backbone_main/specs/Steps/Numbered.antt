-- Assignments by number.
use Rattle.std.specs.Prelude.{ℕ, zero, suc, ◌/◌, ◌%◌, ◌==◌, [], ◌∷◌}
use Rattle.cnf_core.specs.Literals.{Assignment}

-- the assignment of n variables with this number: variable 1 is true where the number is odd, and the
-- half of the number gives the other variables
abbrev pub assignment_at : ℕ → ℕ → Assignment
assignment_at zero number = []
assignment_at (suc n) number = (number % 2 == 1) ∷ assignment_at n (number / 2)
