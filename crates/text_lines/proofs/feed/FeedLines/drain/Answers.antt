-- One read more, or a fault.
use Rattle.std.proofs.Common.{ℕ, List, sym, subst}
use Rattle.std.proofs.lemmas.Result.{err_from_is_err_and}
use Rattle.bone_desk.specs.Told.{Told}
use Rattle.text_lines.specs.Lines.{Line}
use Rattle.text_lines.specs.Progress.{Progress}
use Rattle.text_lines.proofs.Draining.{IsDraining, draining_more, drained_fault}
use Rattle.text_lines.proofs.feed.FeedLines.drain.Goals as goal

pub loop-self-preserved : goal.loop-self-preserved
loop-self-preserved g c =
    let so_far = subst (λ (p : Progress). IsDraining (g.D.Desk.told c.args.desk.now) (g.D.Desk.told c.loop-self.desk) c.args.self.now p)
    (sym c.self.view_is) c.loop-self.invariant in
    let onward = c.in_ok-read_more.ensures.onward in
    draining_more onward.0 so_far c.loop-self-test.true onward.1

pub returns-in_err-read_more : goal.returns-in_err-read_more
returns-in_err-read_more g c =
    let so_far = subst (λ (p : Progress). IsDraining (g.D.Desk.told c.args.desk.now) (g.D.Desk.told c.loop-self.desk) c.args.self.now p)
    (sym c.self.view_is) c.loop-self.invariant in
    let p = err_from_is_err_and c.from_residual.result c.from_residual.ensures.1 in
    λ (limit : ℕ) (start : Told) (text : List ℕ) (done : List Line) h.
    rw (p.1, p.2) (drained_fault c.in_err-read_more.field-0.0 so_far c.in_err-read_more.ensures.err h)
