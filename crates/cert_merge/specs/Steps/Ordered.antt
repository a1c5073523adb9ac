-- The lines of a merged order, before they are made.
use Rattle.std.specs.Prelude.{ℕ, List, map, All}
use Rattle.cnf_core.specs.Formulas.{Cnf}
use Rattle.lrat_lines.specs.declared.line.Line.{Line}
use Rattle.lrat_log.specs.Entries.{Recorded}
use Rattle.lrat_log.specs.Kept.{IsLog}
use Rattle.cert_merge.specs.declared.place.Place.{Place}
use Rattle.cert_merge.specs.Merging.{IsMergedOrder, AreIds, line_of, AreImportsShown, AreOf}
use Rattle.cert_merge.specs.Steps.Taking.{id_in, AreAllTaken}

-- all that is known of an order and its ids
pub record IsOrdered (F : Cnf) (logs : List Recorded) (ids : List (List ℕ)) (order : List Place) : Type 0 where
  pub are_logs : All IsLog logs
  pub of : AreOf F logs
  pub shown : AreImportsShown logs
  pub is_order : IsMergedOrder logs order
  pub are_ids : AreIds F logs order (id_in ids)
  pub all : AreAllTaken logs ids

abbrev pub lines_of : Cnf → List Recorded → List (List ℕ) → List Place → List Line
lines_of F logs ids order = map (line_of F logs (id_in ids)) order
