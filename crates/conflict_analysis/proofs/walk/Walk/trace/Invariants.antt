use Rattle.std.proofs.Common.{◌≡◌, ◌≤◌, ℕ, length}
use Rattle.cnf_core.specs.Literals.{Literals}
use Rattle.conflict_analysis.specs.Steps.Tracing.{IsCounted, IsTraced}
use Rattle.conflict_analysis.proofs.walk.Walk.trace.Given as goal

abbrev pub invariant-loop-self : goal.invariant-loop-self
invariant-loop-self l = record {
  size : length l.self.stamps ≡ length l.initial.self.stamps;
  within : l.end ≤ l.top;
  counted : IsCounted l.trail.entries l.end l.self;
  traced : (bound : ℕ) (own : Literals) → IsTraced l.arena l.trail.entries l.top bound own l.top l.initial.self
      → IsTraced l.arena l.trail.entries l.top bound own l.end l.self;
}

abbrev pub decreases-loop-self : goal.decreases-loop-self
decreases-loop-self l = l.end
