use Rattle.assumption_solver.proofs.Queried.{queried_more}
use Rattle.assumption_solver.proofs.search.Search.answer.Goals as goal

pub returns-clause-queried : goal.returns-clause-queried
returns-clause-queried g c =
    queried_more c.args.self.now.journal c.begin_query.new.self.journal c.go_on.new.self.journal c.begin_query.ensures.queried
    c.go_on.ensures.continued
