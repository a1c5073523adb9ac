-- The flip that isn't noted yet.
use Rattle.std.proofs.Common.{arith}
use Rattle.local_search.proofs.Undone.{undone_flip}
use Rattle.local_search.proofs.descend.Descent.run.Goals as goal

pub note-since-requires-clause-undone : goal.note-since-requires-clause-undone
note-since-requires-clause-undone c =
    let stepped = c.in-Some.ensures.some in
    undone_flip c.args.tables.now.formula c.loop-since.search.held c.loop-since.search.values c.step.new.search.held
    c.step.new.search.values c.loop-since.self.journal.items c.step.new.self.journal.items c.loop-since.since c.in-Some.var
    c.loop-since.invariant.undone stepped.free.low
    (omega (arith, stepped.free.high, c.loop-since.invariant.onward.state.sizes.values))
    stepped.values c.step.ensures.onward.held c.step.ensures.journal
