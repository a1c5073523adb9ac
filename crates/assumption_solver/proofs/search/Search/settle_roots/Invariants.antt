use Rattle.std.proofs.Common.{◌≡◌, ◌-◌, length}
use Rattle.trail_core.specs.Trails.{IsTrail}
use Rattle.assumption_solver.specs.Steps.Noted.{IsNoted}
use Rattle.assumption_solver.specs.Steps.Solving.{IsSolving}
use Rattle.assumption_solver.specs.Steps.States.{StaysGuided, IsGrown}
use Rattle.assumption_solver.proofs.search.Search.settle_roots.Given as goal

abbrev pub invariant-loop-self : goal.invariant-loop-self
invariant-loop-self l = record {
  solves : IsSolving l.self.analyser l.self.settled l.self.arena l.self.watches l.self.trail l.self.journal l.self.epochs;
  trail : IsTrail l.self.trail;
  root : l.self.trail.level ≡ 0;
  gone : l.self.trail.gone ≡ l.initial.self.trail.gone;
  count : length l.self.trail.entries ≡ length l.initial.self.trail.entries;
  grown : IsGrown l.initial.self.trail.entries l.self.trail.entries;
  vars : l.self.trail.vars ≡ l.initial.self.trail.vars;
  epochs : l.self.epochs ≡ l.initial.self.epochs;
  guided : StaysGuided l.initial.self l.self;
  noted : IsNoted l.initial.self.journal l.self.journal;
}

abbrev pub decreases-loop-self : goal.decreases-loop-self
decreases-loop-self l = length l.initial.self.trail.entries - l.self.settled
