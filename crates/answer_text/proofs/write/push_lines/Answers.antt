-- Line after line.
use Rattle.std.proofs.Common.{◌++◌, ◌+◌, take, drop}
use Rattle.std.proofs.lemmas.Result.{err_from_is_err_and}
use Rattle.bone_desk.proofs.Pieces.{pushed_as, cut_as, pushed_none, pushed_next, cut_next, cut_before}
use Rattle.answer_text.specs.AnswerText.{literal_line, literal_lines}
use Rattle.answer_text.proofs.Lines.{lines_more, lines_around, lines_all}
use Rattle.answer_text.proofs.write.push_lines.Goals as goal

pub loop-lit-init : goal.loop-lit-init
loop-lit-init g c = pushed_none c.args.buffer.now (g.D.Desk.told c.args.desk.now)

pub loop-lit-preserved : goal.loop-lit-preserved
loop-lit-preserved g c =
    let letter = c.args.letter in
    let lits = c.args.lits.now in
    let i = c.loop-lit.lit-index in
    let lit = c.lit-item.result in
    pushed_as (lines_more letter lits i lit c.loop-lit-test.true c.lit-item.is)
    (pushed_next (literal_lines letter (take i lits)) (literal_line letter lit) c.loop-lit.invariant c.in_ok-push_line.ensures.ok)

pub returns-in_err-push_line-clause-err : goal.returns-in_err-push_line-clause-err
returns-in_err-push_line-clause-err g c =
    let p = err_from_is_err_and c.from_residual.result c.from_residual.ensures.1 in
    let letter = c.args.letter in
    let lits = c.args.lits.now in
    let i = c.loop-lit.lit-index in
    let lit = c.lit-item.result in
    let so_far = literal_lines letter (take i lits) in
    let with_line = cut_next so_far (literal_line letter lit) c.loop-lit.invariant c.in_err-push_line.ensures.err in
    rw p.1 (cut_as (lines_around letter lits i lit c.loop-lit-test.true c.lit-item.is)
    (cut_before (so_far ++ literal_line letter lit) (literal_lines letter (drop (i + 1) lits)) with_line))

pub returns-clause-ok : goal.returns-clause-ok
returns-clause-ok g c =
    pushed_as (lines_all c.args.letter c.args.lits.now c.loop-lit.lit-index c.loop-lit-test.false) c.loop-lit.invariant
