use Rattle.std.proofs.Common.{◌++◌}
use Rattle.lrat_log.specs.Packed.{packed_number}
use Rattle.lrat_log.proofs.Groups.{HasGroups}
use Rattle.lrat_log.proofs.numbers.push_number.Given as goal

abbrev pub invariant-loop-left : goal.invariant-loop-left
invariant-loop-left l = HasGroups l.bytes.items (l.initial.bytes.items ++ packed_number l.number) l.left

abbrev pub decreases-loop-left : goal.decreases-loop-left
decreases-loop-left l = l.left
