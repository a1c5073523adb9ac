use Rattle.std.proofs.Common.{◌≡◌, vec_len, ◌+◌, ap, ◌∙◌, length, arith}
use Rattle.candidate_words.proofs.Moves.{with_origins, opening_length}
use Rattle.candidate_words.proofs.words.table_words.Goals as goal

pub returns-clause-items : goal.returns-clause-items
returns-clause-items c =
    let len : length c.in_ok-words.words.items ≡ vec_len c.in_ok-words.words = omega arith in
    let count : c.len.result + c.vars.result ≡ vec_len c.in_ok-words.words + c.args.formula.now.vars = omega (arith, c.len.ensures, c.vars.ensures.value) in
    c.in_ok-resize.ensures.items
    ∙ with_origins c.args.formula.now c.in_ok-words.words.items (c.len.result + c.vars.result) (vec_len c.in_ok-words.words) c.in_ok-words.ensures count len

pub returns-clause-len : goal.returns-clause-len
returns-clause-len c =
    omega (arith, c.in_ok-resize.ensures.len, c.len.ensures, c.vars.ensures.value, ap length c.in_ok-words.ensures, opening_length c.args.formula.now)
