-- Three numbers behind their words, and the line feed.
use Rattle.std.proofs.Common.{◌++◌, List, ℕ, codes, decimal}
use Rattle.std.proofs.lemmas.Result.{err_from_is_err_and, on_ok_weaker, on_err_weaker}
use Rattle.bone_desk.proofs.Pieces.{pushed_next, cut_next, cut_before}
use Rattle.backbone_main.specs.declared.sampling.Sampling.{Sampling}
use Rattle.backbone_main.proofs.sample_text.push_numbers.Goals as goal

abbrev vars_part : Sampling → List ℕ
vars_part s = codes "sample vars " ++ decimal s.vars

abbrev clauses_part : Sampling → List ℕ
clauses_part s = codes " clauses " ++ decimal s.clauses

abbrev seed_part : Sampling → List ℕ
seed_part s = codes " seed " ++ decimal s.settings.seed

abbrev end : List ℕ
end = codes "\n"

pub returns-in_err-push_count-clause-err : goal.returns-in_err-push_count-clause-err
returns-in_err-push_count-clause-err g c =
    let p = err_from_is_err_and c.from_residual.result c.from_residual.ensures.1 in
    let vars = vars_part c.args.sampling in
    let clauses = clauses_part c.args.sampling in
    let seed = seed_part c.args.sampling in
    rw p.1 (cut_before (vars ++ clauses ++ seed) end (cut_before (vars ++ clauses) seed
    (cut_before vars clauses c.in_err-push_count.ensures.err)))

pub returns-in_err-push_count-2-clause-err : goal.returns-in_err-push_count-2-clause-err
returns-in_err-push_count-2-clause-err g c =
    let p = err_from_is_err_and c.from_residual-in_err-push_count-2.result c.from_residual-in_err-push_count-2.ensures.1 in
    let vars = vars_part c.args.sampling in
    let clauses = clauses_part c.args.sampling in
    let seed = seed_part c.args.sampling in
    rw p.1 (cut_before (vars ++ clauses ++ seed) end (cut_before (vars ++ clauses) seed
    (cut_next vars clauses c.in_ok-push_count.ensures.ok c.in_err-push_count-2.ensures.err)))

pub returns-in_err-push_number-clause-err : goal.returns-in_err-push_number-clause-err
returns-in_err-push_number-clause-err g c =
    let p = err_from_is_err_and c.from_residual-in_err-push_number.result c.from_residual-in_err-push_number.ensures.1 in
    let vars = vars_part c.args.sampling in
    let clauses = clauses_part c.args.sampling in
    let seed = seed_part c.args.sampling in
    let both = pushed_next vars clauses c.in_ok-push_count.ensures.ok c.in_ok-push_count-2.ensures.ok in
    rw p.1 (cut_before (vars ++ clauses ++ seed) end (cut_next (vars ++ clauses) seed both c.in_err-push_number.ensures.err))

pub returns-clause-ok : goal.returns-clause-ok
returns-clause-ok g c =
    let vars = vars_part c.args.sampling in
    let clauses = clauses_part c.args.sampling in
    let seed = seed_part c.args.sampling in
    let both = pushed_next vars clauses c.in_ok-push_count.ensures.ok c.in_ok-push_count-2.ensures.ok in
    let all = pushed_next (vars ++ clauses) seed both c.in_ok-push_number.ensures.ok in
    on_ok_weaker c.push.result (λ last. pushed_next (vars ++ clauses ++ seed) end all last) c.push.ensures.ok

pub returns-clause-err : goal.returns-clause-err
returns-clause-err g c =
    let vars = vars_part c.args.sampling in
    let clauses = clauses_part c.args.sampling in
    let seed = seed_part c.args.sampling in
    let both = pushed_next vars clauses c.in_ok-push_count.ensures.ok c.in_ok-push_count-2.ensures.ok in
    let all = pushed_next (vars ++ clauses) seed both c.in_ok-push_number.ensures.ok in
    on_err_weaker c.push.result (λ last. cut_next (vars ++ clauses ++ seed) end all last) c.push.ensures.err
