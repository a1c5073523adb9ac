use Rattle.std.proofs.Common.{◌≡◌, ◌∙◌, ◌+◌, ℕ, IsTrue, sym, ap, subst, arith}
use Rattle.witness_text.specs.Models.{model_in}
use Rattle.cnf_core.specs.Literals.{Assignment}
use Rattle.cnf_core.specs.Formulas.{IsModel}
use Rattle.bone_check.specs.Witnessing.{is_against}
use Rattle.bone_check.specs.Steps.Dropping.{IsNext}
use Rattle.bone_check.proofs.Dropped.{pass_next}
use Rattle.bone_check.proofs.drops.failing_before.Goals as goal

pub loop-place-preserved : goal.loop-place-preserved
loop-place-preserved c =
    let F = c.args.formula.now in
    let models = c.args.models.now in
    let drops = c.args.drops.now in
    let place = c.loop-place.place in
    let d = c.line_at-drop.result in
    let here = c.line_at-drop.ensures in
    let takes : d.model ≡ c.args.number = c.loop-place.invariant.takes d here in
    let values : c.args.values.now ≡ model_in models d.model = c.requires.values ∙ ap (model_in models) (sym takes) in
    let model : IsModel F c.args.values.now =
    subst (λ (a : Assignment). IsModel F a) (sym c.requires.values) (c.requires.models c.args.number c.requires.number) in
    let against : IsTrue (is_against F models d) =
    sym (c.is_against.ensures F model values (λ flips. c.mark_once-marked.ensures.marked (c.mark_once-marked.ensures.wanted flips)))
    ∙ c.if-not-is_against.false in
    let next : IsNext drops d.model (place + 1) c.next-place.result =
    subst (λ (n : ℕ). IsNext drops d.model (place + 1) n) (sym c.next-place.ensures)
    (c.requires.chained.nexts place d (omega arith) here) in
    record {
      pass = pass_next F models drops c.args.number place c.next-place.result d here takes against next c.loop-place.invariant.pass;
      takes = λ e there. next.takes e there ∙ takes;
      fits = next.high;
      marks = c.mark_once-marked.ensures.marks;
      marked = c.mark_once-marked.ensures.marked;
    }
