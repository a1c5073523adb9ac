-- Words, and the digits behind them.
use Rattle.std.proofs.Common.{◌++◌, List, ℕ, ap}
use Rattle.std.proofs.lemmas.Result.{on_ok_weaker, on_err_weaker}
use Rattle.bone_desk.proofs.Pieces.{pushed_as, cut_as, pushed_next, cut_next}
use Rattle.backbone_main.proofs.note.push_number.Goals as goal

pub returns-clause-ok : goal.returns-clause-ok
returns-clause-ok g c =
    let words = c.args.words.now in
    on_ok_weaker c.push-2.result
    (λ last. pushed_as (ap (λ (n : List ℕ). words ++ n) c.decimal_bytes.ensures)
    (pushed_next words c.decimal_bytes.result.now c.in_ok-push.ensures.ok last))
    c.push-2.ensures.ok

pub returns-clause-err : goal.returns-clause-err
returns-clause-err g c =
    let words = c.args.words.now in
    on_err_weaker c.push-2.result
    (λ last. cut_as (ap (λ (n : List ℕ). words ++ n) c.decimal_bytes.ensures)
    (cut_next words c.decimal_bytes.result.now c.in_ok-push.ensures.ok last))
    c.push-2.ensures.err
