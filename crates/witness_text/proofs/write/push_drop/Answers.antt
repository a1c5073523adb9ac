-- Three pieces make the line: the letter and the literal, the number, and the digit.
use Rattle.std.proofs.Common.{◌≡◌, ◌++◌, [], ◌∷◌, List, ℕ, ap, ◌∙◌, decimal}
use Rattle.std.proofs.lemmas.Result.{err_from_is_err_and, on_ok_weaker, on_err_weaker}
use Rattle.cnf_core.specs.Spelling.{literal_text}
use Rattle.bone_desk.proofs.Pieces.{pushed_as, cut_as, pushed_next, cut_next, cut_before}
use Rattle.witness_text.specs.WitnessText.{digit_of, drop_line}
use Rattle.witness_text.specs.declared.line.WitnessLine.{WitnessLine}
use Rattle.witness_text.proofs.Written.{drop_pieces}
use Rattle.witness_text.proofs.write.push_drop.Goals as goal

-- the letter and the literal, the number, and the digit
abbrev front : List ℕ → List ℕ
front literal = 100 ∷ 32 ∷ literal

abbrev middle : List ℕ → List ℕ
middle number = 32 ∷ number

abbrev end : ℕ → List ℕ
end digit = 32 ∷ digit ∷ 10 ∷ []

whole : (d : WitnessLine) (literal number : List ℕ) (digit : ℕ) → literal ≡ literal_text d.lit → number ≡ decimal d.model
    → digit ≡ digit_of d.flip → (front literal ++ middle number) ++ end digit ≡ drop_line d
whole d literal number digit l n f =
    ap (λ (x : List ℕ). (front x ++ middle number) ++ end digit) l
    ∙ ap (λ (x : List ℕ). (front (literal_text d.lit) ++ middle x) ++ end digit) n
    ∙ ap (λ (x : ℕ). (front (literal_text d.lit) ++ middle (decimal d.model)) ++ end x) f
    ∙ drop_pieces (literal_text d.lit) (decimal d.model) (digit_of d.flip)

part : (d : WitnessLine) (literal number : List ℕ) → literal ≡ literal_text d.lit → number ≡ decimal d.model
    → (front literal ++ middle number) ++ end (digit_of d.flip) ≡ drop_line d
part d literal number l n =
    ap (λ (x : List ℕ). (front x ++ middle number) ++ end (digit_of d.flip)) l
    ∙ ap (λ (x : List ℕ). (front (literal_text d.lit) ++ middle x) ++ end (digit_of d.flip)) n
    ∙ drop_pieces (literal_text d.lit) (decimal d.model) (digit_of d.flip)

start : (d : WitnessLine) (literal : List ℕ) → literal ≡ literal_text d.lit
    → (front literal ++ middle (decimal d.model)) ++ end (digit_of d.flip) ≡ drop_line d
start d literal l =
    ap (λ (x : List ℕ). (front x ++ middle (decimal d.model)) ++ end (digit_of d.flip)) l
    ∙ drop_pieces (literal_text d.lit) (decimal d.model) (digit_of d.flip)

pub returns-in_err-push_two-clause-err : goal.returns-in_err-push_two-clause-err
returns-in_err-push_two-clause-err g c =
    let p = err_from_is_err_and c.from_residual.result c.from_residual.ensures.1 in
    let d = c.args.line in
    let literal = c.literal_bytes.result.now in
    rw p.1 (cut_as (start d literal c.literal_bytes.ensures)
    (cut_before (front literal ++ middle (decimal d.model)) (end (digit_of d.flip))
    (cut_before (front literal) (middle (decimal d.model)) c.in_err-push_two.ensures.err)))

pub returns-in_err-push_two-2-clause-err : goal.returns-in_err-push_two-2-clause-err
returns-in_err-push_two-2-clause-err g c =
    let p = err_from_is_err_and c.from_residual-in_err-push_two-2.result c.from_residual-in_err-push_two-2.ensures.1 in
    let d = c.args.line in
    let literal = c.literal_bytes.result.now in
    let number = c.number_bytes.result.now in
    rw p.1 (cut_as (part d literal number c.literal_bytes.ensures c.number_bytes.ensures)
    (cut_before (front literal ++ middle number) (end (digit_of d.flip))
    (cut_next (front literal) (middle number) c.in_ok-push_two.ensures.ok c.in_err-push_two-2.ensures.err)))

pub returns-clause-ok : goal.returns-clause-ok
returns-clause-ok g c =
    let d = c.args.line in
    let literal = c.literal_bytes.result.now in
    let number = c.number_bytes.result.now in
    let digit = c.digit_of.result in
    let both = pushed_next (front literal) (middle number) c.in_ok-push_two.ensures.ok c.in_ok-push_two-2.ensures.ok in
    on_ok_weaker c.push.result
    (λ last. pushed_as (whole d literal number digit c.literal_bytes.ensures c.number_bytes.ensures c.digit_of.ensures)
    (pushed_next (front literal ++ middle number) (end digit) both last))
    c.push.ensures.ok

pub returns-clause-err : goal.returns-clause-err
returns-clause-err g c =
    let d = c.args.line in
    let literal = c.literal_bytes.result.now in
    let number = c.number_bytes.result.now in
    let digit = c.digit_of.result in
    let both = pushed_next (front literal) (middle number) c.in_ok-push_two.ensures.ok c.in_ok-push_two-2.ensures.ok in
    on_err_weaker c.push.result
    (λ last. cut_as (whole d literal number digit c.literal_bytes.ensures c.number_bytes.ensures c.digit_of.ensures)
    (cut_next (front literal ++ middle number) (end digit) both last))
    c.push.ensures.err
