use Rattle.std.proofs.Common.{◌≡◌, ◌≤◌, ◌+◌, ◌-◌, ◌++◌, map, take, drop, vec_len, vec_capacity}
use Rattle.lrat_log.specs.Steps.Unpacked.{values, first}
use Rattle.lrat_log.proofs.packing.append_hints.Given as goal

abbrev pub invariant-loop-k : goal.invariant-loop-k
invariant-loop-k l = record {
  left : values (drop l.at l.bytes) ≡ drop l._k (drop 1 (values (drop l.start l.bytes)));
  hints : l.hints.items ≡ l.fn.hints.items ++ map (λ d. l.id - d) (take l._k (drop 1 (values (drop l.start l.bytes))));
  room : vec_len l.fn.hints + first (values (drop l.start l.bytes)) ≤ vec_capacity l.hints;
  size : vec_len l.hints ≡ vec_len l.fn.hints + l._k;
}
