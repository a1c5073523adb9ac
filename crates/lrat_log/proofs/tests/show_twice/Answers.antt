use Rattle.std.proofs.Common.{◌≡◌}
use Rattle.lrat_lines.specs.Examples.{implied_one}
use Rattle.lrat_log.specs.Entries.{empty_log, with_new_query}
use Rattle.lrat_log.proofs.Worked.{worked}
use Rattle.lrat_log.proofs.tests.show_twice.Goals as goal

pub unit-requires : goal.unit-requires
unit-requires c =
    let now : c.begin_query.new.self ≡ with_new_query (empty_log implied_one) = rw c.requires at c.begin_query.ensures.value in
    rw (now, c.new.ensures) worked.first_unit
