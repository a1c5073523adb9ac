-- Which sets of no literal and of one were reached.
use Rattle.std.specs.Prelude.{Bool, true, false, if◌then◌else◌, [], ◌∷◌, Option, Some, None}
use Rattle.std.specs.List.{list_all}
use Rattle.cnf_core.specs.Literals.{Literal, Literals}
use Rattle.lrat_lines.specs.Sets.{is_same}

-- the only literal of the set, if it has just one
abbrev pub unit_of : Literals → Option Literal
unit_of [] = None
unit_of (l ∷ ls) = if list_all (is_same l) ls then Some l else None

-- whether the set is that of just this literal
abbrev pub is_just : Option Literal → Literal → Bool
is_just None l = false
is_just (Some k) l = is_same k l

abbrev pub is_unit : Literals → Literal → Bool
is_unit c l = is_just (unit_of c) l

abbrev pub is_empty : Literals → Bool
is_empty [] = true
is_empty (l ∷ ls) = false
