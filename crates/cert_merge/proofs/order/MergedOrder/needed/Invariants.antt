use Rattle.std.proofs.Common.{◌≤◌, length}
use Rattle.cert_merge.specs.Steps.Marking.{AreNeededFrom}
use Rattle.cert_merge.specs.Steps.Ordered.{lines_of}
use Rattle.cert_merge.specs.Steps.Numbered.{places_of}
use Rattle.cert_merge.proofs.order.MergedOrder.needed.Given as goal

abbrev pub invariant-loop-left : goal.invariant-loop-left
invariant-loop-left l = record {
  needed : AreNeededFrom l.formula (lines_of l.formula l.logs l.self.ids.items (places_of l.logs l.self.numbers.items)) l.keep l.left l.marks.items;
  low : l.left ≤ length (places_of l.logs l.self.numbers.items);
}

abbrev pub decreases-loop-left : goal.decreases-loop-left
decreases-loop-left l = l.left
