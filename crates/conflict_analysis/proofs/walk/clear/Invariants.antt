use Rattle.std.proofs.Common.{◌≡◌, ℕ, ◌<◌, get_or}
use Rattle.conflict_analysis.proofs.walk.clear.Given as goal

abbrev pub invariant-loop-stamp : goal.invariant-loop-stamp
invariant-loop-stamp l = (k : ℕ) → k < l.stamp-index → get_or l.stamp-items k 0 ≡ 0
