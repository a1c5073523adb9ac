use Rattle.std.proofs.Common.{◌≡◌}
use Rattle.choosers.proofs.queue.QueueChooser.pop_free.Given as goal

abbrev pub invariant-loop-self : goal.invariant-loop-self
invariant-loop-self l = l.self.asked ≡ l.initial.self.asked

abbrev pub decreases-loop-self : goal.decreases-loop-self
decreases-loop-self l = l.self.weights.count
