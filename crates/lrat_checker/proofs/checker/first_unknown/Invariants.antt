use Rattle.std.proofs.Common.{◌≡◌, None, take}
use Rattle.lrat_checker.specs.Steps.Taking.{first_unknown}
use Rattle.lrat_checker.proofs.checker.first_unknown.Given as goal

abbrev pub invariant-loop-id : goal.invariant-loop-id
invariant-loop-id l = first_unknown l.known (take l.id-index l.ids) ≡ None
