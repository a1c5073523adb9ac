use Rattle.std.proofs.Common.{◌≡◌, ◌++◌, ◌∷◌, ◌-◌, length, map, take}
use Rattle.std.specs.Prelude.{All}
use Rattle.lrat_log.specs.Packed.{packed_numbers}
use Rattle.lrat_log.specs.Steps.Unpacked.{IsWord}
use Rattle.lrat_log.proofs.packing.push_hints.Given as goal

abbrev pub invariant-loop-hint : goal.invariant-loop-hint
invariant-loop-hint l = record {
  bytes : l.bytes.items ≡ l.fn.bytes.items ++ packed_numbers (length l.hints ∷ map (λ h. l.id - h) (take l.hint-index l.hints));
  words : All IsWord (length l.hints ∷ map (λ h. l.id - h) (take l.hint-index l.hints));
}
