-- The models of a witness, by their numbers.
use Rattle.std.specs.Prelude.{ℕ, List, [], slice_index_or}
use Rattle.cnf_core.specs.Literals.{Assignment}

-- the model of a number, counted from 0
abbrev pub model_in : List Assignment → ℕ → Assignment
model_in models number = slice_index_or models number []
