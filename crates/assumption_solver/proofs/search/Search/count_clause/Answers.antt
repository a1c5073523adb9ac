use Rattle.lrat_log.specs.Fresh.{learnt_in}
use Rattle.assumption_solver.proofs.Learning.{solving_unended, solving_ended, over_ended}
use Rattle.assumption_solver.proofs.search.Search.count_clause.Goals as goal

pub tidy-requires-clause-solves : goal.tidy-requires-clause-solves
tidy-requires-clause-solves g c =
    let s = c.args.self.now in
    solving_ended s.analyser s.settled s.arena s.watches s.trail s.journal s.epochs c.due.new.self c.due.result c.requires.bears
    c.requires.counted c.due.ensures.value c.if-due.true c.due.ensures.next c.due.ensures.epoch

pub tidy-requires-clause-over : goal.tidy-requires-clause-over
tidy-requires-clause-over g c =
    let s = c.args.self.now in
    over_ended (learnt_in s.journal.entries s.journal.query) s.epochs c.due.new.self c.due.result c.requires.counted c.due.ensures.value
    c.if-due.true c.due.ensures.next

pub returns-clause-solves : goal.returns-clause-solves
returns-clause-solves g c =
    let s = c.args.self.now in
    solving_unended s.analyser s.settled s.arena s.watches s.trail s.journal s.epochs c.due.new.self c.due.result c.requires.bears
    c.requires.learnt c.requires.counted c.due.ensures.value c.if-due.false c.due.ensures.next c.due.ensures.epoch
