-- Four numbers behind their words, and the line feed.
use Rattle.std.proofs.Common.{◌++◌, List, ℕ, codes, decimal}
use Rattle.std.proofs.lemmas.Result.{err_from_is_err_and, on_ok_weaker, on_err_weaker}
use Rattle.bone_desk.proofs.Pieces.{pushed_next, cut_next, cut_before}
use Rattle.backbone_main.specs.declared.sample_text.Summary.{Summary}
use Rattle.backbone_main.proofs.sample_text.push_summary.Goals as goal

abbrev literals_part : Summary → List ℕ
literals_part s = codes "s SATISFIABLE\nbackbone " ++ decimal s.literals

abbrev vars_part : Summary → List ℕ
vars_part s = codes " of " ++ decimal s.vars

abbrev negative_part : Summary → List ℕ
negative_part s = codes ", " ++ decimal s.negative

abbrev sum_part : Summary → List ℕ
sum_part s = codes " negative, sum " ++ decimal s.sum

abbrev end : List ℕ
end = codes "\n"

pub returns-in_err-push_number-clause-err : goal.returns-in_err-push_number-clause-err
returns-in_err-push_number-clause-err g c =
    let p = err_from_is_err_and c.from_residual.result c.from_residual.ensures.1 in
    let literals = literals_part c.args.summary in
    let vars = vars_part c.args.summary in
    let negative = negative_part c.args.summary in
    let sum = sum_part c.args.summary in
    rw p.1 (cut_before (literals ++ vars ++ negative ++ sum) end (cut_before (literals ++ vars ++ negative) sum
    (cut_before (literals ++ vars) negative (cut_before literals vars c.in_err-push_number.ensures.err))))

pub returns-in_err-push_count-clause-err : goal.returns-in_err-push_count-clause-err
returns-in_err-push_count-clause-err g c =
    let p = err_from_is_err_and c.from_residual-in_err-push_count.result c.from_residual-in_err-push_count.ensures.1 in
    let literals = literals_part c.args.summary in
    let vars = vars_part c.args.summary in
    let negative = negative_part c.args.summary in
    let sum = sum_part c.args.summary in
    rw p.1 (cut_before (literals ++ vars ++ negative ++ sum) end (cut_before (literals ++ vars ++ negative) sum
    (cut_before (literals ++ vars) negative
    (cut_next literals vars c.in_ok-push_number.ensures.ok c.in_err-push_count.ensures.err))))

pub returns-in_err-push_number-2-clause-err : goal.returns-in_err-push_number-2-clause-err
returns-in_err-push_number-2-clause-err g c =
    let p = err_from_is_err_and c.from_residual-in_err-push_number-2.result c.from_residual-in_err-push_number-2.ensures.1 in
    let literals = literals_part c.args.summary in
    let vars = vars_part c.args.summary in
    let negative = negative_part c.args.summary in
    let sum = sum_part c.args.summary in
    let two = pushed_next literals vars c.in_ok-push_number.ensures.ok c.in_ok-push_count.ensures.ok in
    rw p.1 (cut_before (literals ++ vars ++ negative ++ sum) end (cut_before (literals ++ vars ++ negative) sum
    (cut_next (literals ++ vars) negative two c.in_err-push_number-2.ensures.err)))

pub returns-in_err-push_number-3-clause-err : goal.returns-in_err-push_number-3-clause-err
returns-in_err-push_number-3-clause-err g c =
    let p = err_from_is_err_and c.from_residual-in_err-push_number-3.result c.from_residual-in_err-push_number-3.ensures.1 in
    let literals = literals_part c.args.summary in
    let vars = vars_part c.args.summary in
    let negative = negative_part c.args.summary in
    let sum = sum_part c.args.summary in
    let two = pushed_next literals vars c.in_ok-push_number.ensures.ok c.in_ok-push_count.ensures.ok in
    let three = pushed_next (literals ++ vars) negative two c.in_ok-push_number-2.ensures.ok in
    rw p.1 (cut_before (literals ++ vars ++ negative ++ sum) end
    (cut_next (literals ++ vars ++ negative) sum three c.in_err-push_number-3.ensures.err))

pub returns-clause-ok : goal.returns-clause-ok
returns-clause-ok g c =
    let literals = literals_part c.args.summary in
    let vars = vars_part c.args.summary in
    let negative = negative_part c.args.summary in
    let sum = sum_part c.args.summary in
    let two = pushed_next literals vars c.in_ok-push_number.ensures.ok c.in_ok-push_count.ensures.ok in
    let three = pushed_next (literals ++ vars) negative two c.in_ok-push_number-2.ensures.ok in
    let four = pushed_next (literals ++ vars ++ negative) sum three c.in_ok-push_number-3.ensures.ok in
    on_ok_weaker c.push.result (λ last. pushed_next (literals ++ vars ++ negative ++ sum) end four last) c.push.ensures.ok

pub returns-clause-err : goal.returns-clause-err
returns-clause-err g c =
    let literals = literals_part c.args.summary in
    let vars = vars_part c.args.summary in
    let negative = negative_part c.args.summary in
    let sum = sum_part c.args.summary in
    let two = pushed_next literals vars c.in_ok-push_number.ensures.ok c.in_ok-push_count.ensures.ok in
    let three = pushed_next (literals ++ vars) negative two c.in_ok-push_number-2.ensures.ok in
    let four = pushed_next (literals ++ vars ++ negative) sum three c.in_ok-push_number-3.ensures.ok in
    on_err_weaker c.push.result (λ last. cut_next (literals ++ vars ++ negative ++ sum) end four last) c.push.ensures.err
