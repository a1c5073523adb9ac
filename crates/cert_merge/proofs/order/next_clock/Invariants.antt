use Rattle.cert_merge.specs.Steps.Taking.{IsLeastTo}
use Rattle.cert_merge.proofs.order.next_clock.Given as goal

abbrev pub invariant-loop-g : goal.invariant-loop-g
invariant-loop-g l = IsLeastTo l.logs l.ids l.g l.least
