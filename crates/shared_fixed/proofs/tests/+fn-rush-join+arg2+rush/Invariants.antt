use Rattle.std.proofs.Common.{◌-◌}
use Rattle.shared_fixed.proofs.tests.+fn-rush-join+arg2+rush.Given as goal

-- how many seats are still to come
abbrev pub decreases-join+arg2 : goal.decreases-join+arg2
decreases-join+arg2 g l = l.count - 1

abbrev pub decreases-rush : goal.decreases-rush
decreases-rush g l = l.count
