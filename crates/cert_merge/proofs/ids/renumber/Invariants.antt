use Rattle.std.proofs.Common.{◌≡◌, ◌++◌, map, take, drop}
use Rattle.cert_merge.specs.Steps.Taking.{listed_id}
use Rattle.cert_merge.proofs.ids.renumber.Given as goal

abbrev pub invariant-loop-hint : goal.invariant-loop-hint
invariant-loop-hint l = l.hints ≡ map (listed_id l.inputs l.ids) (take l.hint-index l.initial.hints) ++ drop l.hint-index l.initial.hints
