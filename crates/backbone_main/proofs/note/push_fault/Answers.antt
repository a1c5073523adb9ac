-- The kind, the place, and the line feed.
use Rattle.std.proofs.Common.{◌++◌, List, ℕ, ap, codes, decimal}
use Rattle.std.proofs.lemmas.Result.{err_from_is_err_and, on_ok_weaker, on_err_weaker}
use Rattle.bone_desk.proofs.Pieces.{pushed_as, cut_as, pushed_next, cut_next, cut_before}
use Rattle.backbone_main.proofs.note.push_fault.Goals as goal

-- the words and a number
abbrev kind_part : ℕ → List ℕ
kind_part kind = codes "error: text kind " ++ decimal kind

abbrev place_part : ℕ → List ℕ
place_part place = codes " at byte " ++ decimal place

abbrev end : List ℕ
end = codes "\n"

pub returns-in_err-push_number-clause-err : goal.returns-in_err-push_number-clause-err
returns-in_err-push_number-clause-err g c =
    let p = err_from_is_err_and c.from_residual.result c.from_residual.ensures.1 in
    let kind = kind_part c.kind_number.result in
    let place = place_part c.args.fault.place in
    rw p.1 (cut_as (ap (λ (n : ℕ). kind_part n ++ place ++ end) c.kind_number.ensures)
    (cut_before (kind ++ place) end (cut_before kind place c.in_err-push_number.ensures.err)))

pub returns-in_err-push_number-2-clause-err : goal.returns-in_err-push_number-2-clause-err
returns-in_err-push_number-2-clause-err g c =
    let p = err_from_is_err_and c.from_residual-in_err-push_number-2.result c.from_residual-in_err-push_number-2.ensures.1 in
    let kind = kind_part c.kind_number.result in
    let place = place_part c.args.fault.place in
    rw p.1 (cut_as (ap (λ (n : ℕ). kind_part n ++ place ++ end) c.kind_number.ensures)
    (cut_before (kind ++ place) end
    (cut_next kind place c.in_ok-push_number.ensures.ok c.in_err-push_number-2.ensures.err)))

pub returns-clause-ok : goal.returns-clause-ok
returns-clause-ok g c =
    let kind = kind_part c.kind_number.result in
    let place = place_part c.args.fault.place in
    let both = pushed_next kind place c.in_ok-push_number.ensures.ok c.in_ok-push_number-2.ensures.ok in
    on_ok_weaker c.push.result
    (λ last. pushed_as (ap (λ (n : ℕ). kind_part n ++ place ++ end) c.kind_number.ensures)
    (pushed_next (kind ++ place) end both last))
    c.push.ensures.ok

pub returns-clause-err : goal.returns-clause-err
returns-clause-err g c =
    let kind = kind_part c.kind_number.result in
    let place = place_part c.args.fault.place in
    let both = pushed_next kind place c.in_ok-push_number.ensures.ok c.in_ok-push_number-2.ensures.ok in
    on_err_weaker c.push.result
    (λ last. cut_as (ap (λ (n : ℕ). kind_part n ++ place ++ end) c.kind_number.ensures)
    (cut_next (kind ++ place) end both last))
    c.push.ensures.err
