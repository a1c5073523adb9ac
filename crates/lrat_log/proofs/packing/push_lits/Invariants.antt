use Rattle.std.proofs.Common.{◌≡◌, ◌++◌, ◌∷◌, length, map, take}
use Rattle.std.specs.Prelude.{All}
use Rattle.cnf_core.specs.Literals.{Literal, code_of}
use Rattle.lrat_log.specs.Packed.{packed_numbers}
use Rattle.lrat_log.specs.Steps.Unpacked.{IsWord, IsCode}
use Rattle.lrat_log.proofs.packing.push_lits.Given as goal

abbrev pub invariant-loop-lit : goal.invariant-loop-lit
invariant-loop-lit l = record {
  bytes : l.bytes.items ≡ l.fn.bytes.items ++ packed_numbers (length l.lits ∷ map code_of (take l.lit-index l.lits));
  words : All IsWord (length l.lits ∷ map code_of (take l.lit-index l.lits));
  codes : All (λ (x : Literal). IsCode (code_of x)) (take l.lit-index l.lits);
}
