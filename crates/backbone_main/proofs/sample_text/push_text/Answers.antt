-- The numbers, and what stands behind them.
use Rattle.std.proofs.lemmas.Result.{err_from_is_err_and, on_ok_weaker, on_err_weaker}
use Rattle.bone_desk.proofs.Pieces.{pushed_next, cut_next, cut_before}
use Rattle.backbone_main.specs.Sampling.{numbers_line}
use Rattle.backbone_main.specs.Steps.Finish.{asked_sample}
use Rattle.backbone_main.specs.Steps.Findings.{finding_lines}
use Rattle.backbone_main.proofs.sample_text.push_text.Goals as goal

pub returns-in_err-push_numbers-clause-err : goal.returns-in_err-push_numbers-clause-err
returns-in_err-push_numbers-clause-err g c =
    let p = err_from_is_err_and c.from_residual.result c.from_residual.ensures.1 in
    rw p.1 (cut_before (numbers_line (asked_sample c.args.sampling)) (finding_lines c.args.finding) c.in_err-push_numbers.ensures.err)

pub returns-clause-ok : goal.returns-clause-ok
returns-clause-ok g c =
    on_ok_weaker c.push_lines.result
    (λ last. pushed_next (numbers_line (asked_sample c.args.sampling)) (finding_lines c.args.finding) c.in_ok-push_numbers.ensures.ok last)
    c.push_lines.ensures.ok

pub returns-clause-err : goal.returns-clause-err
returns-clause-err g c =
    on_err_weaker c.push_lines.result
    (λ last. cut_next (numbers_line (asked_sample c.args.sampling)) (finding_lines c.args.finding) c.in_ok-push_numbers.ensures.ok last)
    c.push_lines.ensures.err
