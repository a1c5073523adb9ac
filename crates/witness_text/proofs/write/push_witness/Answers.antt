use Rattle.std.proofs.lemmas.Result.{err_from_is_err_and, on_ok_weaker, on_err_weaker}
use Rattle.bone_desk.proofs.Pieces.{pushed_next, cut_next, cut_before}
use Rattle.witness_text.specs.WitnessText.{model_lines, drop_lines, named_drops}
use Rattle.witness_text.proofs.write.push_witness.Goals as goal

pub returns-in_err-push_models-clause-err : goal.returns-in_err-push_models-clause-err
returns-in_err-push_models-clause-err g c =
    let p = err_from_is_err_and c.from_residual.result c.from_residual.ensures.1 in
    let s = c.args.models.now in
    rw p.1 (cut_before (model_lines s.models) (drop_lines (named_drops s c.args.drops.now)) c.in_err-push_models.ensures.err)

pub returns-clause-ok : goal.returns-clause-ok
returns-clause-ok g c =
    let s = c.args.models.now in
    on_ok_weaker c.push_drops.result
    (λ last. pushed_next (model_lines s.models) (drop_lines (named_drops s c.args.drops.now)) c.in_ok-push_models.ensures.ok last)
    c.push_drops.ensures.ok

pub returns-clause-err : goal.returns-clause-err
returns-clause-err g c =
    let s = c.args.models.now in
    on_err_weaker c.push_drops.result
    (λ last. cut_next (model_lines s.models) (drop_lines (named_drops s c.args.drops.now)) c.in_ok-push_models.ensures.ok last)
    c.push_drops.ensures.err
