-- The bits so far are the values so far.
use Rattle.model_store.proofs.Bits.{HasBits}
use Rattle.witness_text.specs.Reading.{values_of}
use Rattle.witness_text.proofs.packing.packed_word.Given as goal

abbrev pub invariant-loop-k : goal.invariant-loop-k
invariant-loop-k l = HasBits (values_of l.digits) l.first l.k l.word
