-- The numbers of an entry before its hints.
use Rattle.std.specs.Prelude.{ℕ, List, [], ◌∷◌, ◌++◌}
use Rattle.cnf_core.specs.Literals.{Literals}
use Rattle.lrat_log.specs.declared.packing.Head.{Head}
use Rattle.lrat_log.specs.Packed.{kind_number, literal_numbers}

abbrev pub head_numbers : Head → List ℕ
head_numbers head = kind_number head.kind ∷ head.query_step ∷ head.clock_step ∷ []

abbrev pub front_of : Head → Literals → List ℕ
front_of head c = head_numbers head ++ literal_numbers c
