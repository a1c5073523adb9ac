use Rattle.witness_text.proofs.Spaces.{NoSpaceBelow}
use Rattle.witness_text.proofs.drops.split_at_space.Given as goal

abbrev pub invariant-loop-i : goal.invariant-loop-i
invariant-loop-i l = NoSpaceBelow l.bytes l.i
