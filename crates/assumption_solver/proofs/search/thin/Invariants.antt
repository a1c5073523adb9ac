use Rattle.watch_lists.specs.Steps.Compacting.{IsCleared}
use Rattle.assumption_solver.specs.Steps.Standing.{IsThinned}
use Rattle.assumption_solver.proofs.search.thin.Given as goal

abbrev pub invariant-loop-r : goal.invariant-loop-r
invariant-loop-r l = record { thinned : IsThinned l.initial.arena l.arena; cleared : IsCleared l.initial.arena l.arena }
