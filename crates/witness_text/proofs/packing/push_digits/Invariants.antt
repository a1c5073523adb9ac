-- The block keeps its front, and has the words written so far.
use Rattle.std.proofs.Common.{◌≡◌, ℕ, ◌+◌, ◌<◌, length, take, get_or}
use Rattle.model_store.specs.Steps.Packed.{HasValues}
use Rattle.witness_text.specs.Reading.{values_of}
use Rattle.witness_text.proofs.packing.push_digits.Given as goal

abbrev pub invariant-loop-j : goal.invariant-loop-j
invariant-loop-j l = record {
  len : length l.words.items ≡ l.start + l.count;
  front : take l.start l.words.items ≡ l.fn.words.items;
  written : (k : ℕ) → k < l.j → HasValues (values_of l.digits) k (get_or l.words.items (l.start + k) 0);
}
