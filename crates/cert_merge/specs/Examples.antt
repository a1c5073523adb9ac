-- Logs over small formulas, worked by the definitions. Of the first two, over 1 or 2; 1 or -2, one takes a literal from
-- the other.
use Rattle.std.specs.Prelude.{List, [], ◌∷◌}
use Rattle.cnf_core.specs.Literals.{Literals}
use Rattle.lrat_lines.specs.Examples.{positive, implied_one}
use Rattle.lrat_log.specs.declared.kind.Kind.TheVariants.{Unit as UnitKind, Core}
use Rattle.lrat_log.specs.Entries.{Recorded, empty_log, with_shown, with_import}
use Rattle.lrat_log.specs.Examples.{refuted, with_empty}

abbrev pub one_or_two : Literals
one_or_two = positive 1 ∷ positive 2 ∷ []

abbrev pub only_one : Literals
only_one = positive 1 ∷ []

-- 1 is shown here
abbrev pub with_first : Recorded
with_first = with_shown (empty_log implied_one) Core one_or_two (1 ∷ [])

abbrev pub teacher : Recorded
teacher = with_shown with_first UnitKind only_one (1 ∷ 2 ∷ [])

-- and taken over and used here
abbrev pub with_taken : Recorded
with_taken = with_import (empty_log implied_one) (positive 1) 1

abbrev pub learner : Recorded
learner = with_shown with_taken Core one_or_two (3 ∷ [])

abbrev pub both : List Recorded
both = learner ∷ teacher ∷ []

-- over the formula without a model: 1 is taken from the log that ends with the empty clause, and 3 and 2, which that log
-- takes, are shown here
abbrev pub helper_with_one : Recorded
helper_with_one = with_import (empty_log refuted) (positive 1) 1

abbrev pub helper_with_three : Recorded
helper_with_three = with_shown helper_with_one UnitKind (positive 3 ∷ []) (5 ∷ 3 ∷ [])

abbrev pub helper : Recorded
helper = with_shown helper_with_three UnitKind (positive 2 ∷ []) (5 ∷ 3 ∷ 4 ∷ [])

abbrev pub across : List Recorded
across = with_empty ∷ helper ∷ []
