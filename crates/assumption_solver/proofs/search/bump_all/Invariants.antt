use Rattle.std.proofs.Common.{◌≡◌}
use Rattle.assumption_solver.proofs.search.bump_all.Given as goal

abbrev pub invariant-loop-var : goal.invariant-loop-var
invariant-loop-var g l =
    (goal.Chooser-dyn g (l.chooser.vtable, l.chooser.value)).asks l.chooser.value
    ≡ (goal.Chooser-dyn g (l.initial.chooser.vtable, l.initial.chooser.value)).asks l.initial.chooser.value
