-- Three pieces, one behind another.
use Rattle.std.proofs.Common.{◌++◌}
use Rattle.std.proofs.lemmas.Result.{err_from_is_err_and, on_ok_weaker, on_err_weaker}
use Rattle.bone_desk.proofs.Pieces.{pushed_next, cut_next, cut_before}
use Rattle.backbone_main.proofs.note.push_named.Goals as goal

pub returns-in_err-push-2-clause-err : goal.returns-in_err-push-2-clause-err
returns-in_err-push-2-clause-err g c =
    let p = err_from_is_err_and c.from_residual-in_err-push-2.result c.from_residual-in_err-push-2.ensures.1 in
    let words = c.args.words.now in
    let name = c.args.name.now in
    rw p.1 (cut_before (words ++ name) c.args.end.now (cut_next words name c.in_ok-push.ensures.ok c.in_err-push-2.ensures.err))

pub returns-clause-ok : goal.returns-clause-ok
returns-clause-ok g c =
    let words = c.args.words.now in
    let name = c.args.name.now in
    let both = pushed_next words name c.in_ok-push.ensures.ok c.in_ok-push-2.ensures.ok in
    on_ok_weaker c.push-3.result (λ last. pushed_next (words ++ name) c.args.end.now both last) c.push-3.ensures.ok

pub returns-clause-err : goal.returns-clause-err
returns-clause-err g c =
    let words = c.args.words.now in
    let name = c.args.name.now in
    let both = pushed_next words name c.in_ok-push.ensures.ok c.in_ok-push-2.ensures.ok in
    on_err_weaker c.push-3.result (λ last. cut_next (words ++ name) c.args.end.now both last) c.push-3.ensures.err
