-- What was found is the only true literal of those read so far.
use Rattle.std.proofs.Common.{take}
use Rattle.flip_literals.proofs.Supports.{IsFound}
use Rattle.flip_literals.proofs.flips.support.Given as goal

abbrev pub invariant-loop-lit : goal.invariant-loop-lit
invariant-loop-lit l = IsFound l.values (take l.lit-index l.lits) l.found
