-- An assignment with one variable flipped.
use Rattle.std.specs.Prelude.{ℕ, not}
use Rattle.cnf_core.specs.Literals.{Assignment, value_of, with_value}

-- the assignment with the other value of one variable
abbrev pub flipped : Assignment → ℕ → Assignment
flipped a v = with_value a v (not (value_of a v))
