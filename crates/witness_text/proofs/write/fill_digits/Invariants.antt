use Rattle.model_store.specs.Stores.{model_at}
use Rattle.witness_text.proofs.Written.{IsFilled}
use Rattle.witness_text.proofs.write.fill_digits.Given as goal

abbrev pub invariant-loop-i : goal.invariant-loop-i
invariant-loop-i l = IsFilled (model_at l.models l.model) l.first l.digits l.i
