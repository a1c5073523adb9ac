-- All lines are taken in turn; the first that isn't, and what is missing at the end, decide where the whole text came.
use Rattle.std.proofs.Common.{◌≡◌, ◌+◌, ◌-◌, ◌<◌, Bool, [], ◌∷◌, ◌++◌, Ok, Err, sym, ◌∙◌, subst, arith}
use Rattle.std.proofs.lemmas.Result.{err_from_is_err_and}
use Rattle.text_lines.specs.Lines.{Line}
use Rattle.text_lines.specs.Progress.{Progress, Advanced, HasRead}
use Rattle.text_lines.specs.Readings.{Takes}
use Rattle.text_lines.proofs.Stepping.{IsStepping, text_refused, text_stopped, rest_stopped, text_is_whole, text_lacks_end, stepping_none, stepping_next, count_fits, read_few, same_line}
use Rattle.text_lines.proofs.read.read_lines.Goals as goal

pub loop-lines-init : goal.loop-lines-init
loop-lines-init g c =
    let told = g.D.Desk.told c.args.desk.now in
    subst (λ (p : Progress). IsStepping g.R.LineByLine.step c.args.reader.now c.args.feed c.args.limit told told p 0 c.args.reader.now)
    (sym c.new-lines.ensures.unread) (stepping_none g.R.LineByLine.step c.args.reader.now c.args.feed c.args.limit told
    (subst (λ (p : Progress). HasRead c.args.limit told told p [] []) c.new-lines.ensures.unread (c.new-lines.ensures.start told)))

pub returns-in_err-advance : goal.returns-in_err-advance
returns-in_err-advance g c =
    let so_far = c.loop-lines.invariant in
    let adv = c.in_err-advance.ensures.advanced c.args.limit (g.D.Desk.told c.args.desk.now) so_far.text so_far.done so_far.read in
    let p = err_from_is_err_and c.from_residual.result c.from_residual.ensures.1 in
    rw (p.1, p.2) (text_stopped g.R.LineByLine.end c.loop-lines.reader c.in_err-advance.field-0.0 so_far adv c.in_err-advance.ensures.feed)

pub overflow_add-count : goal.overflow_add-count
overflow_add-count g c =
    let so_far = c.loop-lines.invariant in
    let old = g.D.Desk.told c.args.desk.now in
    let new = g.D.Desk.told c.advance.new.desk in
    let adv = subst (λ (b : Bool). Advanced c.args.limit old new c.advance.new.self so_far.text so_far.done (Ok b)) c.if-branch.true
    (c.in_ok-advance.ensures.advanced c.args.limit old so_far.text so_far.done so_far.read) in
    omega (arith, count_fits adv, so_far.count_is, c.requires)

pub returns-in_err-drain : goal.returns-in_err-drain
returns-in_err-drain g c =
    let so_far = c.loop-lines.invariant in
    let old = g.D.Desk.told c.args.desk.now in
    let new = g.D.Desk.told c.advance.new.desk in
    let adv = subst (λ (b : Bool). Advanced c.args.limit old new c.advance.new.self so_far.text so_far.done (Ok b)) c.if-branch.true
    (c.in_ok-advance.ensures.advanced c.args.limit old so_far.text so_far.done so_far.read) in
    let p = err_from_is_err_and c.from_residual-in_err-drain.result c.from_residual-in_err-drain.ensures.1 in
    rw (p.1, p.2) (rest_stopped g.R.LineByLine.step g.R.LineByLine.end c.args.reader.now c.take.new.self c.in_err-drain.field-0.0
    (c.in_err-drain.ensures c.args.limit old (so_far.text ++ adv.more) (so_far.done ++ c.advance.new.self.line ∷ []) adv.answer)
    (c.in_ok-advance.ensures.feed ∙ so_far.feed_is))

pub returns-in-Err : goal.returns-in-Err
returns-in-Err g c =
    let so_far = c.loop-lines.invariant in
    let old = g.D.Desk.told c.args.desk.now in
    let new = g.D.Desk.told c.advance.new.desk in
    let adv = subst (λ (b : Bool). Advanced c.args.limit old new c.advance.new.self so_far.text so_far.done (Ok b)) c.if-branch.true
    (c.in_ok-advance.ensures.advanced c.args.limit old so_far.text so_far.done so_far.read) in
    let line = same_line c.bytes.result.now c.is_ended.result c.advance.new.self.line c.bytes.ensures c.is_ended.ensures in
    let takes = subst (λ (l : Line). Takes (g.R.LineByLine.step c.loop-lines.reader l) c.take.new.self (Err c.in-Err.refusal)) line c.in-Err.ensures in
    rw c.refused.ensures (text_refused g.R.LineByLine.end c.take.new.self c.advance.new.self.line c.in-Err.refusal so_far takes
    (c.in_ok-drain.ensures c.args.limit old (so_far.text ++ adv.more) (so_far.done ++ c.advance.new.self.line ∷ []) adv.answer)
    (c.in_ok-advance.ensures.feed ∙ so_far.feed_is))

pub loop-lines-smaller : goal.loop-lines-smaller
loop-lines-smaller g c =
    let so_far = c.loop-lines.invariant in
    let old = g.D.Desk.told c.args.desk.now in
    let new = g.D.Desk.told c.advance.new.desk in
    let adv = subst (λ (b : Bool). Advanced c.args.limit old new c.advance.new.self so_far.text so_far.done (Ok b)) c.if-branch.true
    (c.in_ok-advance.ensures.advanced c.args.limit old so_far.text so_far.done so_far.read) in
    let fewer : c.args.limit - (c.loop-lines.count + 1) < c.args.limit - c.loop-lines.count = omega (arith, count_fits adv, so_far.count_is) in
    fewer

pub loop-lines-preserved : goal.loop-lines-preserved
loop-lines-preserved g c =
    let so_far = c.loop-lines.invariant in
    let old = g.D.Desk.told c.args.desk.now in
    let new = g.D.Desk.told c.advance.new.desk in
    let adv = subst (λ (b : Bool). Advanced c.args.limit old new c.advance.new.self so_far.text so_far.done (Ok b)) c.if-branch.true
    (c.in_ok-advance.ensures.advanced c.args.limit old so_far.text so_far.done so_far.read) in
    let line = same_line c.bytes.result.now c.is_ended.result c.advance.new.self.line c.bytes.ensures c.is_ended.ensures in
    stepping_next so_far adv c.in_ok-advance.ensures.feed (subst (λ (l : Line). g.R.LineByLine.step c.loop-lines.reader l ≡ Ok c.take.new.self) line c.in_default.ensures)

pub returns-in-None : goal.returns-in-None
returns-in-None g c =
    let so_far = c.loop-lines.invariant in
    let old = g.D.Desk.told c.args.desk.now in
    let new = g.D.Desk.told c.advance.new.desk in
    let adv = subst (λ (b : Bool). Advanced c.args.limit old new c.advance.new.self so_far.text so_far.done (Ok b)) c.if-branch.false
    (c.in_ok-advance.ensures.advanced c.args.limit old so_far.text so_far.done so_far.read) in
    text_is_whole g.R.LineByLine.end so_far adv c.in_ok-advance.ensures.feed (sym c.finish.ensures ∙ c.in-None.is)

pub overflow_add-result : goal.overflow_add-result
overflow_add-result g c =
    let so_far = c.loop-lines.invariant in
    omega (arith, read_few so_far.read, so_far.count_is, c.requires)

pub returns : goal.returns
returns g c =
    let so_far = c.loop-lines.invariant in
    let old = g.D.Desk.told c.args.desk.now in
    let new = g.D.Desk.told c.advance.new.desk in
    let adv = subst (λ (b : Bool). Advanced c.args.limit old new c.advance.new.self so_far.text so_far.done (Ok b)) c.if-branch.false
    (c.in_ok-advance.ensures.advanced c.args.limit old so_far.text so_far.done so_far.read) in
    text_lacks_end g.R.LineByLine.end c.in-Some.fault so_far adv c.in_ok-advance.ensures.feed (sym c.finish.ensures ∙ c.in-Some.is)
