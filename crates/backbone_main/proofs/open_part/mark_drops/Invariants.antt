-- So many drops are marked.
use Rattle.std.proofs.Common.{take}
use Rattle.model_store.specs.declared.witness.Witness.{Witness}
use Rattle.backbone_main.specs.Steps.Open.{IsMarked}
use Rattle.backbone_main.proofs.open_part.mark_drops.Given as goal

abbrev pub invariant-loop-drop : goal.invariant-loop-drop
invariant-loop-drop l = IsMarked (λ (w : Witness). w.var) (take l.drop-index l.drops) l.initial.closed l.closed
