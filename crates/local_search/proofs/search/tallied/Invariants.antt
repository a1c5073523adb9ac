-- The literals read so far.
use Rattle.std.proofs.Common.{◌≡◌, ◌*◌, ◌^◌, ◌≤◌, take}
use Rattle.local_search.specs.Tallies.{true_count, true_sum}
use Rattle.local_search.proofs.search.tallied.Given as goal

abbrev pub invariant-loop-lit : goal.invariant-loop-lit
invariant-loop-lit l = record {
  count : l.count ≡ true_count l.values (take l.lit-index l.lits);
  sum : l.sum ≡ true_sum l.values (take l.lit-index l.lits);
  few : l.count ≤ l.lit-index;
  low : l.sum ≤ l.lit-index * 2 ^ 20;
}
