use Rattle.assumption_solver.proofs.Queried.{solving_query}
use Rattle.assumption_solver.proofs.search.Search.begin_query.Goals as goal

pub tidy-requires-clause-solves : goal.tidy-requires-clause-solves
tidy-requires-clause-solves g c =
    let s = c.args.self.now in
    let q = c.begin_query in
    solving_query s.analyser s.settled s.arena s.watches s.trail s.journal q.new.self s.epochs c.begin.new.self c.requires.solves
    q.ensures.value q.ensures.none c.begin.ensures

pub returns-else-is_crowded-clause-solves : goal.returns-else-is_crowded-clause-solves
returns-else-is_crowded-clause-solves g c =
    let s = c.args.self.now in
    let q = c.begin_query in
    solving_query s.analyser s.settled s.arena s.watches s.trail s.journal q.new.self s.epochs c.begin.new.self c.requires.solves
    q.ensures.value q.ensures.none c.begin.ensures
