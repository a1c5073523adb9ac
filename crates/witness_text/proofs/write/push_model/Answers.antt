-- Three pieces make the line: the letter, the digits, and the line feed.
use Rattle.std.proofs.Common.{◌++◌, [], ◌∷◌, List, ℕ, map}
use Rattle.std.proofs.lemmas.Result.{err_from_is_err_and, on_ok_weaker, on_err_weaker}
use Rattle.bone_desk.proofs.Pieces.{pushed_next, cut_next, cut_before}
use Rattle.model_store.specs.Stores.{model_at}
use Rattle.witness_text.specs.WitnessText.{digit_of}
use Rattle.witness_text.proofs.write.push_model.Goals as goal

abbrev letter : List ℕ
letter = 109 ∷ []

abbrev end : List ℕ
end = 10 ∷ []

pub returns-in_err-push-clause-err : goal.returns-in_err-push-clause-err
returns-in_err-push-clause-err g c =
    let p = err_from_is_err_and c.from_residual.result c.from_residual.ensures.1 in
    let digits = map digit_of (model_at c.args.models.now c.args.model) in
    rw p.1 (cut_before (letter ++ digits) end (cut_before letter digits c.in_err-push.ensures.err))

pub returns-in_err-push_values-clause-err : goal.returns-in_err-push_values-clause-err
returns-in_err-push_values-clause-err g c =
    let p = err_from_is_err_and c.from_residual-in_err-push_values.result c.from_residual-in_err-push_values.ensures.1 in
    let digits = map digit_of (model_at c.args.models.now c.args.model) in
    rw p.1 (cut_before (letter ++ digits) end (cut_next letter digits c.in_ok-push.ensures.ok c.in_err-push_values.ensures.err))

pub returns-clause-ok : goal.returns-clause-ok
returns-clause-ok g c =
    let digits = map digit_of (model_at c.args.models.now c.args.model) in
    let both = pushed_next letter digits c.in_ok-push.ensures.ok c.in_ok-push_values.ensures.ok in
    on_ok_weaker c.push-2.result (λ last. pushed_next (letter ++ digits) end both last) c.push-2.ensures.ok

pub returns-clause-err : goal.returns-clause-err
returns-clause-err g c =
    let digits = map digit_of (model_at c.args.models.now c.args.model) in
    let both = pushed_next letter digits c.in_ok-push.ensures.ok c.in_ok-push_values.ensures.ok in
    on_err_weaker c.push-2.result (λ last. cut_next (letter ++ digits) end both last) c.push-2.ensures.err
