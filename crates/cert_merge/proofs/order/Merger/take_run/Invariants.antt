use Rattle.std.proofs.Common.{◌≡◌, length}
use Rattle.cert_merge.specs.Steps.Taking.{ids_at, IsTaking, IsFront}
use Rattle.cert_merge.specs.Steps.Numbered.{places_of}
use Rattle.cert_merge.proofs.order.Merger.take_run.Given as goal

abbrev pub invariant-loop-entry : goal.invariant-loop-entry
invariant-loop-entry l = record {
  taking : IsTaking l.formula l.logs l.self.ids.items l.self.units.items (places_of l.logs l.self.numbers.items);
  front : IsFront l.logs l.self.ids.items l.clock l.g;
  head : l.entry ≡ length (ids_at l.self.ids.items l.g);
}
