-- Lines on their way to the port.
use Rattle.std.proofs.Common.{◌≡◌, ◌∙◌, ◌∷◌, [], ◌++◌, All, List, ℕ, ◌+◌, ap, sym, subst, take, drop, append_assoc}
use Rattle.std.proofs.lemmas.List.{take_more}
use Rattle.std.proofs.lemmas.List.Elements.{All-nil, All-push}
use Rattle.std.proofs.lemmas.Result.{err_from_is_err_and}
use Rattle.bone_desk.specs.Gives.{GaveFront}
use Rattle.bone_desk.proofs.Steps.{front_same, same_none, front_longer}
use Rattle.bone_desk.proofs.Pieces.{at_port, front_as, pushed_as, pushed_none, pushed_next, cut_next, cut_before}
use Rattle.lrat_lines.specs.Printed.{line_text, proof_text, IsInMemory}
use Rattle.lrat_lines.specs.declared.line.Line.{Line}
use Rattle.lrat_lines.proofs.TextLines.{text_more, text_split, text_around}
use Rattle.lrat_lines.proofs.write.push_lines.Goals as goal

pub loop-line-init : goal.loop-line-init
loop-line-init g c = (pushed_none c.args.buffer.now (g.D.Desk.told c.args.desk.now), All-nil IsInMemory)

pub loop-line-preserved : goal.loop-line-preserved
loop-line-preserved g c =
    let lines = c.args.lines.now in
    let i = c.loop-line.line-index in
    let line = c.line-item.result in
    let piece = c.deref.result.now in
    let printed : piece ≡ line_text line =
    c.deref.ensures.value ∙ c.in_ok-print_line.ensures.ok ∙ ap (λ (first : List ℕ). first ++ line_text line) c.clear.ensures.items in
    let so_far = proof_text (take i lines) in
    let listed = take_more lines i line c.loop-line-test.true ∙ ap (λ (l : Line). take i lines ++ l ∷ []) (sym c.line-item.is) in (
      pushed_as (ap (λ (text : List ℕ). so_far ++ text) printed ∙ text_more lines i line c.loop-line-test.true c.line-item.is)
          (pushed_next so_far piece c.loop-line.invariant.0 c.in_ok-push.ensures.ok),
      subst (λ (ls : List Line). All IsInMemory ls) (sym listed)
          (All-push IsInMemory (take i lines) line c.loop-line.invariant.1 c.in_ok-print_line.ensures.in_memory),
    )

-- a line that was not printed: the port has a front of those before
pub returns-in_err-print_line-clause-front : goal.returns-in_err-print_line-clause-front
returns-in_err-print_line-clause-front g c =
    let p = err_from_is_err_and c.from_residual.result c.from_residual.ensures.1 in
    let waited = c.args.buffer.now.bytes in
    let lines = c.args.lines.now in
    let i = c.loop-line.line-index in
    let so_far = proof_text (take i lines) in
    let rest = proof_text (drop i lines) in
    let before = front_same c.loop-line.invariant.0.owes (same_none (g.D.Desk.told c.loop-line.desk)) in
    let whole = front_as (append_assoc waited so_far rest ∙ ap (λ (text : List ℕ). waited ++ text) (text_split lines i))
    (front_longer rest before) in
    rw p.1 (at_port (λ port. GaveFront port (waited ++ proof_text lines) (g.D.Desk.told c.args.desk.now) (g.D.Desk.told c.loop-line.desk))
    c.requires.port whole)

-- a line that was not given whole
pub returns-in_err-push-clause-front : goal.returns-in_err-push-clause-front
returns-in_err-push-clause-front g c =
    let p = err_from_is_err_and c.from_residual-in_err-push.result c.from_residual-in_err-push.ensures.1 in
    let waited = c.args.buffer.now.bytes in
    let lines = c.args.lines.now in
    let i = c.loop-line.line-index in
    let line = c.line-item.result in
    let piece = c.deref.result.now in
    let printed : piece ≡ line_text line =
    c.deref.ensures.value ∙ c.in_ok-print_line.ensures.ok ∙ ap (λ (first : List ℕ). first ++ line_text line) c.clear.ensures.items in
    let so_far = proof_text (take i lines) in
    let rest = proof_text (drop (i + 1) lines) in
    let cut = cut_before (so_far ++ piece) rest (cut_next so_far piece c.loop-line.invariant.0 c.in_err-push.ensures.err) in
    let whole = front_as (ap (λ (text : List ℕ). waited ++ text)
    (ap (λ (text : List ℕ). (so_far ++ text) ++ rest) printed ∙ text_around lines i line c.loop-line-test.true c.line-item.is)) cut.front in
    rw p.1 (at_port (λ port. GaveFront port (waited ++ proof_text lines) (g.D.Desk.told c.args.desk.now) (g.D.Desk.told c.push.new.desk))
    c.requires.port whole)
