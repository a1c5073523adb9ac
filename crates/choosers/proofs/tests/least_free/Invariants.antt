use Rattle.std.proofs.Common.{◌≢◌, ◌-◌, ◌<◌, ◌≤◌, ℕ, pos, slice_index_or}
use Rattle.choosers.proofs.tests.least_free.Given as goal

abbrev pub invariant-loop-place : goal.invariant-loop-place
invariant-loop-place l = (u : ℕ) → 0 < u → u ≤ l.place → slice_index_or l.values (u - 1) (pos 0) ≢ pos 0
