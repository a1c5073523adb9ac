-- The weights written so far.
use Rattle.std.proofs.Common.{◌≡◌, ℕ, ◌^◌, ◌<◌, length, get_or}
use Rattle.local_search.specs.Weights.{weight_of}
use Rattle.local_search.proofs.weights.Weights.new.Given as goal

abbrev pub invariant-loop-breaks : goal.invariant-loop-breaks
invariant-loop-breaks l = record {
  each : length l.table.items ≡ 256;
  weights : (b : ℕ) → b < l.breaks → get_or l.table.items b 0 ≡ weight_of b;
  limit : (b : ℕ) → b < l.breaks → get_or l.table.items b 0 < 2 ^ 31;
}
