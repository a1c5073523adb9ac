use Rattle.std.proofs.Common.{◌≡◌, length}
use Rattle.conflict_analysis.specs.Steps.Learning.{IsWalked}
use Rattle.conflict_analysis.proofs.walk.Walk.find_first.Given as goal

abbrev pub invariant-loop-self : goal.invariant-loop-self
invariant-loop-self l = record {
  size : length l.self.stamps ≡ length l.initial.self.stamps;
  walked : IsWalked l.arena l.trail l.end l.self;
}

abbrev pub decreases-loop-self : goal.decreases-loop-self
decreases-loop-self l = l.end
