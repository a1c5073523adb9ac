use Rattle.std.proofs.Common.{◌≡◌}
use Rattle.choosers.proofs.weights.Weights.rise.Given as goal

abbrev pub invariant-loop-place : goal.invariant-loop-place
invariant-loop-place l = l.self.count ≡ l.initial.self.count

abbrev pub decreases-loop-place : goal.decreases-loop-place
decreases-loop-place l = l.place
