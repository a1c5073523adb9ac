-- A line feed is found, or more is read, or no more can be.
use Rattle.std.proofs.Common.{List, ℕ, length, ◌∙◌, ap, sym, subst}
use Rattle.std.proofs.lemmas.Result.{err_from_is_err_and}
use Rattle.text_lines.specs.Lines.{IsPlain}
use Rattle.text_lines.specs.Progress.{Progress}
use Rattle.text_lines.specs.Steps.Onward.{IsFeedAt}
use Rattle.text_lines.proofs.Onward.{IsSeeking, seeking_more, found_going, stopped_behind}
use Rattle.text_lines.proofs.feed.FeedLines.find_line_feed.Goals as goal

pub returns-in-Some-clause-found : goal.returns-in-Some-clause-found
returns-in-Some-clause-found g c =
    let so_far = c.loop-place.invariant in
    let ahead = c.ahead.ensures ∙ ap (λ (p : Progress). p.ahead) c.self.view_is in
    let feed = subst (λ (bytes : List ℕ). IsFeedAt bytes c.in-Some.place) ahead c.in-Some.ensures in
    (so_far.more, so_far.onward, (found_going so_far feed, feed))

pub loop-place-preserved : goal.loop-place-preserved
loop-place-preserved g c =
    let so_far = c.loop-place.invariant in
    let ahead = c.ahead.ensures ∙ ap (λ (p : Progress). p.ahead) c.self.view_is in
    let seen = c.ahead-seen.ensures ∙ ap (λ (p : Progress). p.ahead) c.self.view_is in
    let plain = subst (λ (bytes : List ℕ). IsPlain bytes) ahead c.in_default.ensures in
    let onward = c.in_ok-read_more.ensures.onward in
    subst (λ (bytes : List ℕ). IsSeeking (g.D.Desk.told c.args.desk.now) (g.D.Desk.told c.read_more.new.desk) c.args.self.now
    c.read_more.new.self (length bytes)) (sym seen) (seeking_more onward.0 so_far plain onward.1 c.in_ok-read_more.ensures.over)

pub returns-in_err-read_more-clause-err : goal.returns-in_err-read_more-clause-err
returns-in_err-read_more-clause-err g c =
    let so_far = c.loop-place.invariant in
    let p = err_from_is_err_and c.from_residual.result c.from_residual.ensures.1 in
    rw (p.1, p.2) (stopped_behind so_far.more so_far.onward c.in_err-read_more.ensures.err)
