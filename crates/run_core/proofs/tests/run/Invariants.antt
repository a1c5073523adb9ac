-- So many choosers as places were gone through.
use Rattle.std.proofs.Common.{◌≡◌, length}
use Rattle.run_core.proofs.tests.run.Given as goal

abbrev pub invariant-loop-place : goal.invariant-loop-place
invariant-loop-place g l = length l.choosers.items ≡ l.place
