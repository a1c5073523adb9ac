use Rattle.std.proofs.Common.{◌≡◌, true, take}
use Rattle.std.specs.List.{list_all}
use Rattle.lrat_lines.specs.Sets.{is_same}
use Rattle.cert_merge.proofs.wanted.are_same.Given as goal

abbrev pub invariant-loop-other : goal.invariant-loop-other
invariant-loop-other l = list_all (is_same l.first) (take l.other-index l.others) ≡ true
