-- The values copied so far.
use Rattle.std.proofs.Common.{◌≡◌, ℕ, ◌<◌, Bool, length, get_or}
use Rattle.local_search.proofs.search.copy.Given as goal

abbrev pub invariant-loop-i : goal.invariant-loop-i
invariant-loop-i l = record {
  each : length l.to ≡ length l.from;
  copied : (k : ℕ) (d : Bool) → k < l.i → get_or l.to k d ≡ get_or l.from k d;
}
