use Rattle.std.proofs.Common.{take}
use Rattle.assumption_solver.specs.Steps.Noted.{IsNoted}
use Rattle.assumption_solver.specs.Steps.Standing.{KeepsInputs}
use Rattle.assumption_solver.specs.Steps.Loading.{IsLoading}
use Rattle.assumption_solver.proofs.search.Search.load.Given as goal

-- the clauses so far stand
abbrev pub invariant-loop-i : goal.invariant-loop-i
invariant-loop-i l = record {
  loading : IsLoading l.self;
  noted : IsNoted l.initial.self.journal l.self.journal;
  inputs : KeepsInputs l.self.arena l.self.trail.entries (take l.i l.clauses);
}
