-- The log has the entries of the worked example so far.
use Rattle.std.proofs.Common.{◌≡◌}
use Rattle.lrat_log.specs.Entries.{with_new_query}
use Rattle.lrat_log.specs.Examples.{with_learnt, with_unit, with_core}
use Rattle.lrat_log.proofs.Worked.{worked}
use Rattle.cert_merge.proofs.tests.search.Goals as goal

pub learnt-requires : goal.learnt-requires
learnt-requires c =
    rw (c.requires, c.new-one.ensures)
    (record { shown = worked.learnt.shown; fresh = worked.learnt.fresh; tight = worked.learnt.tight })

pub learnt-requires-2 : goal.learnt-requires-2
learnt-requires-2 c =
    let first : c.learnt.new.self ≡ with_learnt = rw (c.requires, c.new-one.ensures) at c.in_ok-learnt.ensures.ok in
    let second : c.unit.new.self ≡ with_unit = rw (first, c.new-one.ensures) at c.in_ok-unit.ensures.ok in
    let third : c.core.new.self ≡ with_core = rw (second, c.new.ensures, c.new-2.ensures) at c.in_ok-core.ensures.ok in
    let now : c.begin_query.new.self ≡ with_new_query with_core = rw third at c.begin_query.ensures.value in
    rw (now, c.new-one.ensures)
    (record { shown = worked.again.shown; fresh = worked.again.fresh; tight = worked.again.tight })
