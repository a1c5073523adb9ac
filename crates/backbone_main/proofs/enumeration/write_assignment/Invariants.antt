use Rattle.std.proofs.Common.{length}
use Rattle.backbone_main.proofs.Numbering.{IsWritten}
use Rattle.backbone_main.proofs.enumeration.write_assignment.Given as goal

abbrev pub invariant-loop-i : goal.invariant-loop-i
invariant-loop-i l = IsWritten (length l.fn.values) l.number l.i l.rest l.values
