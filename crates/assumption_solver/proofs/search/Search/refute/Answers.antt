use Rattle.assumption_solver.proofs.Conflicts.{is_root_conflict}
use Rattle.assumption_solver.proofs.Back.{solving_again}
use Rattle.assumption_solver.proofs.Refutations.{no_models}
use Rattle.assumption_solver.proofs.Refuting.{empty_is_shown}
use Rattle.assumption_solver.proofs.search.Search.refute.Goals as goal

pub refute_root-requires-clause-conflict : goal.refute_root-requires-clause-conflict
refute_root-requires-clause-conflict c =
    is_root_conflict c.args.self.now.arena c.args.self.now.trail c.args.conflict c.requires.trail c.requires.conflict c.requires.root

pub empty-requires : goal.empty-requires
empty-requires c =
    let s = c.args.self.now in
    empty_is_shown s.analyser s.settled s.arena s.watches s.trail s.journal s.epochs c.in_ok-hints.hints c.as_slice.result.now
    c.requires.solves c.in_ok-hints.ensures.proved c.as_slice.ensures

pub returns-clause-solves : goal.returns-clause-solves
returns-clause-solves c =
    let s = c.args.self.now in
    solving_again s.analyser c.refute_root.new.self s.settled s.arena s.watches s.trail s.journal c.empty.new.self s.epochs c.requires.solves
    c.refute_root.ensures.same c.empty.ensures.noted

pub returns-clause-empty : goal.returns-clause-empty
returns-clause-empty c =
    (c.in_ok-id.ensures.empty, no_models c.empty.new.self c.in_ok-id.id c.logged_clause_is_entailed.ensures c.prove_log.ensures c.in_ok-id.ensures.empty)
