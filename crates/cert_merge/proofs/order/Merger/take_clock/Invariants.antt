use Rattle.cert_merge.specs.Steps.Taking.{IsTaking, IsFront}
use Rattle.cert_merge.specs.Steps.Numbered.{places_of}
use Rattle.cert_merge.proofs.order.Merger.take_clock.Given as goal

abbrev pub invariant-loop-g : goal.invariant-loop-g
invariant-loop-g l = record {
  taking : IsTaking l.formula l.logs l.self.ids.items l.self.units.items (places_of l.logs l.self.numbers.items);
  front : IsFront l.logs l.self.ids.items l.clock l.g;
}
