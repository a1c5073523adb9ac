-- The sum is low.
use Rattle.std.proofs.Common.{◌*◌, ◌^◌, ◌≤◌}
use Rattle.local_search.proofs.search.LocalSearch.total.Given as goal

abbrev pub invariant-loop-lit : goal.invariant-loop-lit
invariant-loop-lit l = l.total ≤ l.lit-index * 2 ^ 31
