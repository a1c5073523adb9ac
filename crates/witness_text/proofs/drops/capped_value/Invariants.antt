use Rattle.std.proofs.Common.{◌≡◌, ◌-◌, ◌^◌, min, take}
use Rattle.cnf_core.specs.Spelling.{digits_value}
use Rattle.witness_text.proofs.drops.capped_value.Given as goal

abbrev pub invariant-loop-digit : goal.invariant-loop-digit
invariant-loop-digit l = l.number ≡ min (digits_value (take l.digit-index l.digits)) (2 ^ 64 - 1)
