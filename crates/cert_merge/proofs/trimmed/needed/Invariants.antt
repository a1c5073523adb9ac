use Rattle.std.proofs.Common.{◌≤◌, length}
use Rattle.cert_merge.specs.Steps.Marking.{AreNeededFrom}
use Rattle.cert_merge.proofs.trimmed.needed.Given as goal

abbrev pub invariant-loop-left : goal.invariant-loop-left
invariant-loop-left l = record {
  needed : AreNeededFrom l.formula l.lines l.keep l.left l.marks.items;
  low : l.left ≤ length l.lines;
}

abbrev pub decreases-loop-left : goal.decreases-loop-left
decreases-loop-left l = l.left
