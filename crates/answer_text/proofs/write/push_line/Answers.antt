-- Three pieces make a line: the letter, the number, and the line feed.
use Rattle.std.proofs.Common.{◌++◌, [], ◌∷◌, List, ℕ, ap}
use Rattle.std.proofs.lemmas.Result.{err_from_is_err_and, on_ok_weaker, on_err_weaker}
use Rattle.cnf_core.specs.Spelling.{literal_text}
use Rattle.bone_desk.proofs.Pieces.{pushed_as, cut_as, pushed_next, cut_next, cut_before}
use Rattle.answer_text.proofs.write.push_line.Goals as goal

-- the letter and the space
abbrev start : ℕ → List ℕ
start letter = letter ∷ 32 ∷ []

pub returns-in_err-push-clause-err : goal.returns-in_err-push-clause-err
returns-in_err-push-clause-err g c =
    let p = err_from_is_err_and c.from_residual.result c.from_residual.ensures.1 in
    rw p.1 (cut_before (start c.args.letter) (literal_text c.args.lit ++ 10 ∷ []) c.in_err-push.ensures.err)

pub returns-in_err-push-2-clause-err : goal.returns-in_err-push-2-clause-err
returns-in_err-push-2-clause-err g c =
    let p = err_from_is_err_and c.from_residual-in_err-push-2.result c.from_residual-in_err-push-2.ensures.1 in
    let number = c.literal_bytes.result.now in
    let lettered = cut_next (start c.args.letter) number c.in_ok-push.ensures.ok c.in_err-push-2.ensures.err in
    rw p.1 (cut_as (ap (λ (n : List ℕ). c.args.letter ∷ 32 ∷ (n ++ 10 ∷ [])) c.literal_bytes.ensures)
    (cut_before (c.args.letter ∷ 32 ∷ number) (10 ∷ []) lettered))

pub returns-clause-ok : goal.returns-clause-ok
returns-clause-ok g c =
    let number = c.literal_bytes.result.now in
    let lettered = pushed_next (start c.args.letter) number c.in_ok-push.ensures.ok c.in_ok-push-2.ensures.ok in
    on_ok_weaker c.push-3.result
    (λ last. pushed_as (ap (λ (n : List ℕ). c.args.letter ∷ 32 ∷ (n ++ 10 ∷ [])) c.literal_bytes.ensures)
    (pushed_next (c.args.letter ∷ 32 ∷ number) (10 ∷ []) lettered last))
    c.push-3.ensures.ok

pub returns-clause-err : goal.returns-clause-err
returns-clause-err g c =
    let number = c.literal_bytes.result.now in
    let lettered = pushed_next (start c.args.letter) number c.in_ok-push.ensures.ok c.in_ok-push-2.ensures.ok in
    on_err_weaker c.push-3.result
    (λ last. cut_as (ap (λ (n : List ℕ). c.args.letter ∷ 32 ∷ (n ++ 10 ∷ [])) c.literal_bytes.ensures)
    (cut_next (c.args.letter ∷ 32 ∷ number) (10 ∷ []) lettered last))
    c.push-3.ensures.err
