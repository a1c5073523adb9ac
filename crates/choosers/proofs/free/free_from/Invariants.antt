use Rattle.std.proofs.Common.{◌-◌}
use Rattle.choosers.proofs.free.free_from.Given as goal

abbrev pub decreases-loop-from : goal.decreases-loop-from
decreases-loop-from l = l.end - l.from
