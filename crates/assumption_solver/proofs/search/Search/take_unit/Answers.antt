use Rattle.assumption_solver.proofs.Imported.{solving_imported}
use Rattle.assumption_solver.proofs.search.Search.take_unit.Goals as goal

pub take_root-requires-clause-solves : goal.take_root-requires-clause-solves
take_root-requires-clause-solves c =
    let s = c.args.self.now in
    solving_imported s.analyser s.settled s.arena s.watches s.trail s.journal c.import.new.self s.epochs c.args.lit c.args.stamp
    c.requires.solves c.in_ok-id.ensures.ok

pub returns-then-is_some-clause-solves : goal.returns-then-is_some-clause-solves
returns-then-is_some-clause-solves c =
    let s = c.args.self.now in
    solving_imported s.analyser s.settled s.arena s.watches s.trail s.journal c.import.new.self s.epochs c.args.lit c.args.stamp
    c.requires.solves c.in_ok-id.ensures.ok
