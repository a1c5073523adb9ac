use Rattle.std.proofs.Common.{length}
use Rattle.bone_desk.specs.Told.{WritesOnly}
use Rattle.bone_desk.specs.Gives.{Owes}
use Rattle.bone_desk.proofs.write.write_all.Given as goal

abbrev pub invariant-loop-rest : goal.invariant-loop-rest
invariant-loop-rest g l = record {
  owes : Owes l.port l.rest l.fn.bytes (g.D.Desk.told l.fn.desk) (g.D.Desk.told l.desk);
  only : WritesOnly l.port (g.D.Desk.told l.fn.desk) (g.D.Desk.told l.desk);
}

abbrev pub decreases-loop-rest : goal.decreases-loop-rest
decreases-loop-rest g l = length l.rest
