use Rattle.shared_fixed.specs.Rushes.{IsAfterDrops}
use Rattle.shared_fixed.proofs.tests.drop_all.Given as goal

-- the seat stays the same one
abbrev pub invariant-loop-mask : goal.invariant-loop-mask
invariant-loop-mask l = IsAfterDrops l.words l.fn.seat l.seat
