use Rattle.std.proofs.Common.{◌∙◌, arith}
use Rattle.watch_lists.proofs.Compacted.{goes_down}
use Rattle.assumption_solver.proofs.Back.{solves_back}
use Rattle.assumption_solver.proofs.Tidied.{solves_tidied, guided_tidied}
use Rattle.assumption_solver.proofs.search.Search.tidy.Goals as goal

pub settle_roots-requires : goal.settle_roots-requires
settle_roots-requires g c =
    solves_back c.args.self.now c.go_back.new.self 0 c.requires.solves (omega arith) c.go_back.ensures.back c.go_back.ensures.same

pub follow-requires : goal.follow-requires
follow-requires g c = goes_down c.settle_roots.new.self.arena c.thin.new.arena c.in_ok-moves.moves c.in_ok-moves.ensures.compacted

pub returns-clause-solves : goal.returns-clause-solves
returns-clause-solves g c =
    let e = c.in_ok-settle_roots.ensures in
    solves_tidied c.args.self.now c.go_back.new.self c.settle_roots.new.self c.thin.new.arena c.in_ok-moves.moves c.follow.new.self
    c.go_back.ensures.same e.noted e.epochs e.solves e.trail (e.level ∙ c.go_back.ensures.back.level) e.units
    c.in_ok-moves.ensures.thinned c.in_ok-moves.ensures.compacted c.follow.ensures c.requires.over

pub returns-clause-guided : goal.returns-clause-guided
returns-clause-guided g c =
    guided_tidied c.args.self.now c.go_back.new.self c.settle_roots.new.self c.go_back.ensures.back
    c.in_ok-settle_roots.ensures.guided
