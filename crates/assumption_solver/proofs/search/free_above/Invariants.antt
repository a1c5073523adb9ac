use Rattle.std.proofs.Common.{◌≡◌, ◌≤◌, length}
use Rattle.assumption_solver.proofs.search.free_above.Given as goal

abbrev pub invariant-loop-place : goal.invariant-loop-place
invariant-loop-place g l = record {
  within : l.place ≤ length l.trail.entries;
  asked : (goal.Chooser-dyn g (l.chooser.vtable, l.chooser.value)).asks l.chooser.value
      ≡ (goal.Chooser-dyn g (l.initial.chooser.vtable, l.initial.chooser.value)).asks l.initial.chooser.value;
}

abbrev pub decreases-loop-place : goal.decreases-loop-place
decreases-loop-place g l = l.place
