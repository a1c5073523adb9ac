-- The line's meaning is that of its tokens.
use Rattle.std.proofs.Common.{◌≡◌, Result, Err, ◌∙◌, sym, ap, subst}
use Rattle.std.proofs.lemmas.Result.{err_from_is_err_and}
use Rattle.lrat_lines.specs.declared.line.Line.{Line}
use Rattle.lrat_lines.specs.declared.line.LineEnd.{LineEnd}
use Rattle.lrat_lines.specs.declared.line.LineEnd.TheVariants.{BadToken, NotEnded, NegativeHint, Memory}
use Rattle.lrat_lines.specs.Tokens.{tokens}
use Rattle.lrat_lines.specs.Grammar.{line_of, line_of_tokens}
use Rattle.lrat_lines.specs.Grammar.{Gives}
use Rattle.lrat_lines.proofs.read.read_line.Goals as goal

gives_err : (end : LineEnd) (given : Result Line LineEnd) → given ≡ Err end → Gives (Err end) given
gives_err BadToken given is = is
gives_err NotEnded given is = is
gives_err NegativeHint given is = is
gives_err Memory given is = tt

pub returns-in_err-id : goal.returns-in_err-id
unfolding line_of
returns-in_err-id c =
    let p = err_from_is_err_and c.from_residual.result c.from_residual.ensures.1 in
    let means = ap line_of_tokens (sym c.new-tokens.ensures) ∙ c.in_err-id.ensures.err in
    rw (p.1, p.2) (gives_err c.in_err-id.field-0.0 (line_of_tokens (tokens c.args.bytes.now)) means)

pub returns : goal.returns
unfolding line_of
returns c =
    let means = sym c.in_ok-id.ensures.ok ∙ ap line_of_tokens c.new-tokens.ensures in
    subst (λ (given : Result Line LineEnd). Gives c.read_behind_id.result given) means c.read_behind_id.ensures
