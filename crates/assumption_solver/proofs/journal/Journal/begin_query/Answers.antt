use Rattle.assumption_solver.proofs.Tables.{query_is_blank}
use Rattle.assumption_solver.proofs.journal.Journal.begin_query.Goals as goal

pub returns-clause-none : goal.returns-clause-none
returns-clause-none c = query_is_blank c.begin_query.new.self.entries c.begin_query.new.self.query c.begin_query.ensures.unused
