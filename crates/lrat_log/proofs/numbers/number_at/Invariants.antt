-- What was read, and what is left of the number.
use Rattle.std.proofs.Common.{◌≡◌, ◌+◌, ◌*◌, drop}
use Rattle.lrat_log.specs.Steps.Unpacked.{values, first}
use Rattle.lrat_log.proofs.numbers.number_at.Given as goal

abbrev pub invariant-loop-k : goal.invariant-loop-k
invariant-loop-k l = record {
  number : l.value + l.weight * first (values (drop l.k l.bytes)) ≡ first (values (drop l.at l.bytes));
  rest : drop 1 (values (drop l.k l.bytes)) ≡ drop 1 (values (drop l.at l.bytes));
}
