use Rattle.watch_lists.proofs.Kept.{ready_new}
use Rattle.watch_lists.proofs.tests.a_conflict_names_a_false_clause.Goals as goal

pub attach_two-requires-clause-ready : goal.attach_two-requires-clause-ready
attach_two-requires-clause-ready g c =
    ready_new c.new-arena.result c.in_ok-watches.watches c.in_ok-trail.trail 3 c.new-arena.ensures c.in_ok-watches.ensures
    c.in_ok-trail.ensures
