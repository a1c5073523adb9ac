-- One literal more was looked at.
use Rattle.std.proofs.Common.{◌+◌, Bool, sym, ap, ◌∙◌}
use Rattle.model_store.specs.Stores.{model_at}
use Rattle.backbone_main.proofs.Partial.{kept_pushed, kept_left}
use Rattle.backbone_main.proofs.open_part.unmarked_literals.Goals.{then-is_unmarked+in_ok-push, else-is_unmarked}
use Rattle.backbone_main.proofs.open_part.unmarked_literals.Goals as goal

pub loop-i-preserved : goal.loop-i-preserved
loop-i-preserved c =
    let lit_is = c.new-lit.ensures ∙ ap (λ (p : Bool). record { var = c.loop-i.i + 1; positive = p }) c.value.ensures.value in
    elim c.if-is_unmarked.branch [
      | then-is_unmarked+in_ok-push w ↦
          ap (λ v. v.items) w.still-is ∙ w.in_ok-push.ensures.items
          ∙ kept_pushed c.args.formula.now c.args.closed.now (model_at c.args.models.now 0) c.loop-i.i c.loop-i.still.items
          c.new-lit.result c.loop-i.invariant lit_is (sym c.is_unmarked.ensures ∙ w.if-is_unmarked.true)
      | else-is_unmarked w ↦
          ap (λ v. v.items) w.still-is
          ∙ kept_left c.args.formula.now c.args.closed.now (model_at c.args.models.now 0) c.loop-i.i c.loop-i.still.items
          c.new-lit.result c.loop-i.invariant lit_is (sym c.is_unmarked.ensures ∙ w.if-is_unmarked.false)
    ]
