use Rattle.std.proofs.Common.{◌≡◌, ◌+◌, ◌-◌, arith}
use Rattle.backbone_main.proofs.Numbering.{IsWritten-more}
use Rattle.backbone_main.proofs.enumeration.write_assignment.Goals as goal

pub loop-i-preserved : goal.loop-i-preserved
loop-i-preserved c =
    let place : c.loop-i.i + 1 - 1 ≡ c.loop-i.i = omega arith in
    rw (rw place at c.set.ensures)
    (IsWritten-more _ _ _ _ _ (omega arith) c.loop-i.invariant)
