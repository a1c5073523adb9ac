use Rattle.std.proofs.Common.{◌≡◌, ◌≤◌, ◌+◌, ◌++◌, map, take, drop, vec_len, vec_capacity}
use Rattle.cnf_core.specs.Literals.{literal_of_code}
use Rattle.lrat_log.specs.Steps.Unpacked.{values, first}
use Rattle.lrat_log.proofs.packing.append_lits.Given as goal

abbrev pub invariant-loop-k : goal.invariant-loop-k
invariant-loop-k l = record {
  left : values (drop l.at l.bytes) ≡ drop l._k (drop 1 (values (drop l.start l.bytes)));
  lits : l.lits.items ≡ l.fn.lits.items ++ map literal_of_code (take l._k (drop 1 (values (drop l.start l.bytes))));
  room : vec_len l.fn.lits + first (values (drop l.start l.bytes)) ≤ vec_capacity l.lits;
  size : vec_len l.lits ≡ vec_len l.fn.lits + l._k;
}
