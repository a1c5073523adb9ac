-- The bits so far are the values so far.
use Rattle.model_store.proofs.Bits.{HasBits}
use Rattle.model_store.proofs.packed.packed_word.Given as goal

abbrev pub invariant-loop-k : goal.invariant-loop-k
invariant-loop-k l = HasBits l.values l.first l.k l.word
