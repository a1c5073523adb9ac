use Rattle.bone_check.specs.Steps.Dropping.{IsChained}
use Rattle.bone_check.proofs.chains.Chains.new.Given as goal

-- the lines from the place on have their places
abbrev pub invariant-loop-place : goal.invariant-loop-place
invariant-loop-place l = IsChained l.drops l.place l.models (record { first = l.first.items; next = l.next.items })
