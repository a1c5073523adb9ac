use Rattle.std.proofs.Common.{◌≡◌, drop}
use Rattle.lrat_log.specs.Steps.Unpacked.{values}
use Rattle.lrat_log.proofs.numbers.skip.Given as goal

abbrev pub invariant-loop-k : goal.invariant-loop-k
invariant-loop-k l = values (drop l.at l.bytes) ≡ drop l._k (values (drop l.start l.bytes))
