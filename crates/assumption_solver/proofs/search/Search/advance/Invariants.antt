use Rattle.std.proofs.Common.{◌≡◌, ◌≤◌, ◌+◌, ◌-◌, length}
use Rattle.assumption_solver.specs.Steps.Noted.{IsNoted}
use Rattle.assumption_solver.specs.Steps.Queries.{IsGuided, IsSwept}
use Rattle.assumption_solver.specs.Steps.States.{Solves}
use Rattle.assumption_solver.proofs.search.Search.advance.Given as goal

abbrev pub invariant-loop-r : goal.invariant-loop-r
invariant-loop-r g l = record {
  solves : Solves l.self;
  guided : IsGuided l.query.assume.now l.query.chunk.now l.self.trail;
  swept : IsSwept l.query.assume.now l.self.trail l.sweep;
  vars : l.self.trail.vars ≡ l.initial.self.trail.vars;
  epochs : l.self.epochs ≡ l.initial.self.epochs;
  noted : IsNoted l.initial.self.journal l.self.journal;
  asked : (goal.Chooser-dyn g (l.initial.chooser.vtable, l.initial.chooser.value)).asks l.initial.chooser.value
      ≤ (goal.Chooser-dyn g (l.chooser.vtable, l.chooser.value)).asks l.chooser.value;
}

abbrev pub decreases-loop-r : goal.decreases-loop-r
decreases-loop-r g l = l.self.trail.vars + 1 - length l.self.trail.entries
