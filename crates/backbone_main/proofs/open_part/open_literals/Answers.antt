-- The marks of both lists leave the open literals.
use Rattle.std.proofs.Common.{◌∙◌}
use Rattle.std.proofs.lemmas.Result.{IfOk-weaker}
use Rattle.backbone_main.proofs.Partial.{open_by_marks}
use Rattle.backbone_main.proofs.open_part.open_literals.Goals as goal

pub returns : goal.returns
returns c =
    IfOk-weaker c.unmarked_literals.result _ _
    (λ still is. is ∙ open_by_marks c.args.formula.now c.args.report.now c.vars.result c.in_ok-closed.closed
    c.mark_drops.new.closed c.mark_fixes.new.closed c.deref.result.now c.deref-2.result.now c.vars.ensures.value
    c.in_ok-closed.ensures c.deref.ensures.value c.deref-2.ensures.value c.mark_drops.ensures c.mark_fixes.ensures)
    c.unmarked_literals.ensures
