-- The reason, the place, and the line feed.
use Rattle.std.proofs.Common.{◌++◌, List, ℕ, ap, codes, decimal}
use Rattle.std.proofs.lemmas.Result.{err_from_is_err_and, on_ok_weaker, on_err_weaker}
use Rattle.bone_desk.proofs.Pieces.{pushed_as, cut_as, pushed_next, cut_next, cut_before}
use Rattle.backbone_main.specs.Verdicts.{reason_name}
use Rattle.backbone_main.proofs.verdict_text.push_reason.Goals as goal

abbrev words : List ℕ
words = codes "not verified: "

abbrev place_part : ℕ → List ℕ
place_part place = codes " at " ++ decimal place

abbrev end : List ℕ
end = codes "\n"

-- the line by the reason's name and the place
abbrev line : List ℕ → ℕ → List ℕ
line name place = (words ++ name) ++ place_part place ++ end

pub returns-in_err-push-clause-err : goal.returns-in_err-push-clause-err
returns-in_err-push-clause-err g c =
    let p = err_from_is_err_and c.from_residual.result c.from_residual.ensures.1 in
    let name = reason_name c.args.reason in
    let place = place_part c.args.place in
    rw p.1 (cut_before ((words ++ name) ++ place) end (cut_before (words ++ name) place (cut_before words name c.in_err-push.ensures.err)))

pub returns-in_err-push-2-clause-err : goal.returns-in_err-push-2-clause-err
returns-in_err-push-2-clause-err g c =
    let p = err_from_is_err_and c.from_residual-in_err-push-2.result c.from_residual-in_err-push-2.ensures.1 in
    let name = c.reason_name.result.now in
    let place = place_part c.args.place in
    rw p.1 (cut_as (ap (λ (n : List ℕ). line n c.args.place) c.reason_name.ensures)
    (cut_before ((words ++ name) ++ place) end (cut_before (words ++ name) place
    (cut_next words name c.in_ok-push.ensures.ok c.in_err-push-2.ensures.err))))

pub returns-in_err-push_number-clause-err : goal.returns-in_err-push_number-clause-err
returns-in_err-push_number-clause-err g c =
    let p = err_from_is_err_and c.from_residual-in_err-push_number.result c.from_residual-in_err-push_number.ensures.1 in
    let name = c.reason_name.result.now in
    let place = place_part c.args.place in
    let both = pushed_next words name c.in_ok-push.ensures.ok c.in_ok-push-2.ensures.ok in
    rw p.1 (cut_as (ap (λ (n : List ℕ). line n c.args.place) c.reason_name.ensures)
    (cut_before ((words ++ name) ++ place) end (cut_next (words ++ name) place both c.in_err-push_number.ensures.err)))

pub returns-clause-ok : goal.returns-clause-ok
returns-clause-ok g c =
    let name = c.reason_name.result.now in
    let place = place_part c.args.place in
    let both = pushed_next words name c.in_ok-push.ensures.ok c.in_ok-push-2.ensures.ok in
    let three = pushed_next (words ++ name) place both c.in_ok-push_number.ensures.ok in
    on_ok_weaker c.push-3.result
    (λ last. pushed_as (ap (λ (n : List ℕ). line n c.args.place) c.reason_name.ensures)
    (pushed_next ((words ++ name) ++ place) end three last))
    c.push-3.ensures.ok

pub returns-clause-err : goal.returns-clause-err
returns-clause-err g c =
    let name = c.reason_name.result.now in
    let place = place_part c.args.place in
    let both = pushed_next words name c.in_ok-push.ensures.ok c.in_ok-push-2.ensures.ok in
    let three = pushed_next (words ++ name) place both c.in_ok-push_number.ensures.ok in
    on_err_weaker c.push-3.result
    (λ last. cut_as (ap (λ (n : List ℕ). line n c.args.place) c.reason_name.ensures)
    (cut_next ((words ++ name) ++ place) end three last))
    c.push-3.ensures.err
