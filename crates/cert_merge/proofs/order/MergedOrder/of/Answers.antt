use Rattle.std.proofs.Common.{ℕ, Option, subst}
use Rattle.std.specs.Prelude.{MatchOption}
use Rattle.cert_merge.specs.Steps.Taking.{IsAllTaken, IsLeastClock}
use Rattle.cert_merge.proofs.Taken.{all_lists}
use Rattle.cert_merge.specs.Steps.Numbered.{places_of}
use Rattle.cert_merge.proofs.order.MergedOrder.of.Goals as goal

pub returns-clause-lists : goal.returns-clause-lists
returns-clause-lists c =
    let done : IsAllTaken c.args.logs.now c.loop-next.merger.ids.items =
    subst (λ (o : Option ℕ). MatchOption o (IsAllTaken c.args.logs.now c.loop-next.merger.ids.items)
    (IsLeastClock c.args.logs.now c.loop-next.merger.ids.items)) c.in_default.is c.loop-next.invariant.least in
    record {
      lists = c.loop-next.invariant.taking.lists;
      entries = all_lists c.args.formula.now c.args.logs.now c.loop-next.merger.ids.items c.loop-next.merger.units.items
          (places_of c.args.logs.now c.loop-next.merger.numbers.items) c.loop-next.invariant.taking done;
    }
