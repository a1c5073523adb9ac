use Rattle.witness_text.specs.Models.{model_in}
use Rattle.witness_text.proofs.Placed.{IsCopied}
use Rattle.witness_text.proofs.models.PackedModels.copy_to.Given as goal

abbrev pub invariant-loop-k : goal.invariant-loop-k
invariant-loop-k l = IsCopied (model_in l.self l.model) l.values l.k
