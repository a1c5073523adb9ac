use Rattle.std.proofs.Common.{◌≡◌, ◌+◌, ◌*◌, length, take}
use Rattle.cert_merge.specs.Steps.Marking.{AreRoots, IsLookingFor}
use Rattle.cert_merge.specs.Steps.Ordered.{lines_of}
use Rattle.cert_merge.specs.Steps.Numbered.{places_of}
use Rattle.cert_merge.proofs.order.MergedOrder.roots.Given as goal

abbrev pub invariant-loop-k : goal.invariant-loop-k
invariant-loop-k l = record {
  roots : AreRoots l.keep (lines_of l.formula l.logs l.self.ids.items (take l.k (places_of l.logs l.self.numbers.items))) l.marks.items;
  looks : IsLookingFor l.keep (lines_of l.formula l.logs l.self.ids.items (take l.k (places_of l.logs l.self.numbers.items))) l.wanted.units.items
      l.wanted.empty;
  places : length l.wanted.units.items ≡ 2 * l.formula.vars + 2;
}
