use Rattle.std.proofs.Common.{ℕ, ◌-◌, ◌^◌, Option, Some, None, MatchOption}
use Rattle.cert_merge.specs.Steps.Taking.{IsTaking, IsAllTaken, IsLeastClock}
use Rattle.cert_merge.specs.Steps.Numbered.{places_of}
use Rattle.cert_merge.proofs.order.MergedOrder.of.Given as goal

-- clocks rise up to 2^32
abbrev pub rest_of : Option ℕ → ℕ
rest_of None = 0
rest_of (Some clock) = 2 ^ 32 - clock

abbrev pub invariant-loop-next : goal.invariant-loop-next
invariant-loop-next l = record {
  taking : IsTaking l.formula l.logs l.merger.ids.items l.merger.units.items (places_of l.logs l.merger.numbers.items);
  least : MatchOption l.next (IsAllTaken l.logs l.merger.ids.items) (IsLeastClock l.logs l.merger.ids.items);
}

abbrev pub decreases-loop-next : goal.decreases-loop-next
decreases-loop-next l = rest_of l.next
