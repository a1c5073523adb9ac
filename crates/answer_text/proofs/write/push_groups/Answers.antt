-- The verdict, both groups of lines, and the end line.
use Rattle.std.proofs.Common.{◌++◌, List, ℕ, codes}
use Rattle.std.proofs.lemmas.Result.{err_from_is_err_and, on_ok_weaker, on_err_weaker}
use Rattle.answer_text.specs.AnswerText.{fixed_lines, still_lines}
use Rattle.bone_desk.proofs.Pieces.{pushed_next, cut_next, cut_before}
use Rattle.answer_text.proofs.write.push_groups.Goals as goal

abbrev end : List ℕ
end = codes "b 0\n"

pub returns-in_err-push-clause-err : goal.returns-in_err-push-clause-err
returns-in_err-push-clause-err g c =
    let p = err_from_is_err_and c.from_residual.result c.from_residual.ensures.1 in
    let verdict = c.args.verdict.now in
    let fixed = fixed_lines c.args.fixed.now in
    let still = still_lines c.args.still.now in
    rw p.1 (cut_before (verdict ++ fixed ++ still) end (cut_before (verdict ++ fixed) still
    (cut_before verdict fixed c.in_err-push.ensures.err)))

pub returns-in_err-push_lines-clause-err : goal.returns-in_err-push_lines-clause-err
returns-in_err-push_lines-clause-err g c =
    let p = err_from_is_err_and c.from_residual-in_err-push_lines.result c.from_residual-in_err-push_lines.ensures.1 in
    let verdict = c.args.verdict.now in
    let fixed = fixed_lines c.args.fixed.now in
    let still = still_lines c.args.still.now in
    rw p.1 (cut_before (verdict ++ fixed ++ still) end (cut_before (verdict ++ fixed) still
    (cut_next verdict fixed c.in_ok-push.ensures.ok c.in_err-push_lines.ensures.err)))

pub returns-in_err-push_lines-2-clause-err : goal.returns-in_err-push_lines-2-clause-err
returns-in_err-push_lines-2-clause-err g c =
    let p = err_from_is_err_and c.from_residual-in_err-push_lines-2.result c.from_residual-in_err-push_lines-2.ensures.1 in
    let verdict = c.args.verdict.now in
    let fixed = fixed_lines c.args.fixed.now in
    let still = still_lines c.args.still.now in
    let listed = pushed_next verdict fixed c.in_ok-push.ensures.ok c.in_ok-push_lines.ensures.ok in
    rw p.1 (cut_before (verdict ++ fixed ++ still) end
    (cut_next (verdict ++ fixed) still listed c.in_err-push_lines-2.ensures.err))

pub returns-clause-ok : goal.returns-clause-ok
returns-clause-ok g c =
    let verdict = c.args.verdict.now in
    let fixed = fixed_lines c.args.fixed.now in
    let still = still_lines c.args.still.now in
    let listed = pushed_next verdict fixed c.in_ok-push.ensures.ok c.in_ok-push_lines.ensures.ok in
    let grouped = pushed_next (verdict ++ fixed) still listed c.in_ok-push_lines-2.ensures.ok in
    on_ok_weaker c.push-2.result (λ last. pushed_next (verdict ++ fixed ++ still) end grouped last) c.push-2.ensures.ok

pub returns-clause-err : goal.returns-clause-err
returns-clause-err g c =
    let verdict = c.args.verdict.now in
    let fixed = fixed_lines c.args.fixed.now in
    let still = still_lines c.args.still.now in
    let listed = pushed_next verdict fixed c.in_ok-push.ensures.ok c.in_ok-push_lines.ensures.ok in
    let grouped = pushed_next (verdict ++ fixed) still listed c.in_ok-push_lines-2.ensures.ok in
    on_err_weaker c.push-2.result (λ last. cut_next (verdict ++ fixed ++ still) end grouped last) c.push-2.ensures.err
