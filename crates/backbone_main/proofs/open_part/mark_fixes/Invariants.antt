-- So many literals are marked.
use Rattle.std.proofs.Common.{take}
use Rattle.cnf_core.specs.Literals.{Literal}
use Rattle.backbone_main.specs.Steps.Open.{IsMarked}
use Rattle.backbone_main.proofs.open_part.mark_fixes.Given as goal

abbrev pub invariant-loop-lit : goal.invariant-loop-lit
invariant-loop-lit l = IsMarked (λ (k : Literal). k.var) (take l.lit-index l.fixes) l.initial.closed l.closed
