use Rattle.std.proofs.Common.{ℕ, ◌<◌}
use Rattle.assumption_solver.specs.Steps.Asserting.{HasLevelAt}
use Rattle.assumption_solver.proofs.search.second_watch.Given as goal

abbrev pub invariant-loop-i : goal.invariant-loop-i
invariant-loop-i l = (k : ℕ) → 0 < k → k < l.i → HasLevelAt l.trail.entries l.lits k l.level → ⊥
