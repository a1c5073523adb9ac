use Rattle.std.proofs.Common.{arith}
use Rattle.clause_arena.specs.Entries.{new_entry}
use Rattle.std.proofs.Common.{false}
use Rattle.assumption_solver.proofs.Loads.{shown_empty, loading_noted, loading_added, taken_added, stands_added}
use Rattle.assumption_solver.proofs.search.Search.take_plain.Goals as goal

pub empty-requires : goal.empty-requires
empty-requires c = shown_empty c.args.self.now.journal c.args.id c.args.lits.now (grind arith) c.requires.known

pub returns-in_err-empty-clause-loading : goal.returns-in_err-empty-clause-loading
returns-in_err-empty-clause-loading c = loading_noted c.args.self.now c.empty.new.self c.requires.loading c.empty.ensures.noted

pub returns-then-is_empty-clause-loading : goal.returns-then-is_empty-clause-loading
returns-then-is_empty-clause-loading c = loading_noted c.args.self.now c.empty.new.self c.requires.loading c.empty.ensures.noted

pub returns-clause-loading : goal.returns-clause-loading
returns-clause-loading c =
    loading_added c.args.self.now c.add.new.self c.args.id c.args.lits.now c.requires.loading c.in_ok-_r.ensures.added (grind arith)
    c.requires.once c.requires.within c.requires.known

pub returns-clause-taken : goal.returns-clause-taken
returns-clause-taken c =
    λ ds. taken_added c.args.self.now.arena c.add.new.self c.args.self.now.trail.entries (new_entry c.args.id c.args.lits.now false) ds
    c.in_ok-_r.ensures.added

pub returns-clause-stands : goal.returns-clause-stands
returns-clause-stands c =
    stands_added c.args.self.now.arena c.add.new.self c.args.self.now.trail.entries c.args.id c.args.lits.now c.in_ok-_r.ensures.added
