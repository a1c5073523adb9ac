use Rattle.std.proofs.Common.{◌≡◌, ◌∙◌, ◌+◌, ◌≤◌, ◌^◌, Bool, true, false, [], ◌∷◌, ◌++◌, Result, Ok, Err, length, refl, sym, ap, subst, arith}
use Rattle.std.proofs.lemmas.List.{length_push}
use Rattle.text_lines.specs.Feeds.{Came}
use Rattle.text_lines.specs.Progress.{Answered}
use Rattle.text_lines.specs.declared.feed.FeedEnd.{FeedEnd}
use Rattle.bone_check.specs.declared.verdict.CheckEnd.{CheckEnd}
use Rattle.bone_check.specs.declared.line.Untaken.{Untaken}
use Rattle.bone_check.specs.declared.proof.ProofEnd.{ProofEnd}
use Rattle.bone_check.specs.ProofFeed.{proof_limit, ProofSays}
use Rattle.bone_check.specs.Steps.Taking.{TextSays, Leads}
use Rattle.bone_check.proofs.Proved.{read_count, checking_next, taken_whole, feed_ended, line_ended}
use Rattle.bone_check.proofs.proof.check_proof.Goals as goal

pub loop-more-init : goal.loop-more-init
loop-more-init g c = (
  [],
  [],
  [],
  record {
    read = c.new-lines.ensures.start (g.D.Desk.told c.args.desk.now);
    on = ap (λ p. p.feed) c.new-lines.ensures.unread;
    so_far = refl;
    stands = c.in_ok-checker.ensures;
    counted = refl;
  },
)

pub returns-in-Err : goal.returns-in-Err
returns-in-Err g c =
    let start = g.D.Desk.told c.args.desk.now in
    let now = g.D.Desk.told c.advance.new.desk in
    let p = c.advance.new.self in
    let came = c.loop-more.invariant.0 in
    let done = c.loop-more.invariant.1 in
    let is = c.loop-more.invariant.3 in
    let on = c.advance.ensures.feed ∙ is.on in
    let step = c.advance.ensures.advanced proof_limit start came done is.read in
    let said = subst (λ (r : Result Bool FeedEnd). Answered proof_limit start now p (came ++ step.more) done r) c.in-Err.is step.answer in
    record {
      text = came ++ step.more;
      came = subst (λ f. Came f start now (came ++ step.more)) on step.came;
      answer = subst (λ (e : CheckEnd). ProofSays c.args.formula.now start now (came ++ step.more) (Err e)) (sym c.proof_end.ensures)
          (feed_ended c.args.formula.now start now p (came ++ step.more) done c.in-Err.end on said);
    }

pub returns-then-not-more : goal.returns-then-not-more
returns-then-not-more g c =
    let start = g.D.Desk.told c.args.desk.now in
    let now = g.D.Desk.told c.advance.new.desk in
    let p = c.advance.new.self in
    let came = c.loop-more.invariant.0 in
    let done = c.loop-more.invariant.1 in
    let is = c.loop-more.invariant.3 in
    let on = c.advance.ensures.feed ∙ is.on in
    let step = c.advance.ensures.advanced proof_limit start came done is.read in
    let result : c.advance.result ≡ Ok false = c.in-Ok.is ∙ ap (λ (b : Bool). Ok b) c.if-not-more.true in
    let said = subst (λ (r : Result Bool FeedEnd). Answered proof_limit start now p (came ++ step.more) done r) result step.answer in
    record {
      text = came ++ step.more;
      came = subst (λ f. Came f start now (came ++ step.more)) on step.came;
      answer = taken_whole c.args.formula.now now p c.loop-more.checker (came ++ step.more) done c.loop-more.invariant.2 is.so_far is.stands on said;
    }

pub overflow_add-line : goal.overflow_add-line
overflow_add-line g c =
    let start = g.D.Desk.told c.args.desk.now in
    let now = g.D.Desk.told c.advance.new.desk in
    let p = c.advance.new.self in
    let came = c.loop-more.invariant.0 in
    let done = c.loop-more.invariant.1 in
    let is = c.loop-more.invariant.3 in
    let step = c.advance.ensures.advanced proof_limit start came done is.read in
    let result : c.advance.result ≡ Ok true = c.in-Ok.is ∙ ap (λ (b : Bool). Ok b) c.if-not-more.false in
    let read = subst (λ (r : Result Bool FeedEnd). Answered proof_limit start now p (came ++ step.more) done r) result step.answer in
    let count = read_count proof_limit start now p (came ++ step.more) (done ++ p.line ∷ []) read in
    let one : length (done ++ p.line ∷ []) ≡ length done + 1 = length_push done p.line in
    let counted : c.loop-more.line ≡ length done = is.counted in
    let low : c.loop-more.line + 1 ≤ 2 ^ 45 = omega (arith, count, one, counted) in
    omega (arith, low)

pub loop-more-smaller : goal.loop-more-smaller
loop-more-smaller g c =
    let start = g.D.Desk.told c.args.desk.now in
    let now = g.D.Desk.told c.advance.new.desk in
    let p = c.advance.new.self in
    let came = c.loop-more.invariant.0 in
    let done = c.loop-more.invariant.1 in
    let is = c.loop-more.invariant.3 in
    let step = c.advance.ensures.advanced proof_limit start came done is.read in
    let result : c.advance.result ≡ Ok true = c.in-Ok.is ∙ ap (λ (b : Bool). Ok b) c.if-not-more.false in
    let read = subst (λ (r : Result Bool FeedEnd). Answered proof_limit start now p (came ++ step.more) done r) result step.answer in
    let count = read_count proof_limit start now p (came ++ step.more) (done ++ p.line ∷ []) read in
    let one : length (done ++ p.line ∷ []) ≡ length done + 1 = length_push done p.line in
    let counted : c.loop-more.line ≡ length done = is.counted in
    let low : c.loop-more.line + 1 ≤ 2 ^ 45 = omega (arith, count, one, counted) in
    omega (arith, low)

pub returns-in-Err-take_next : goal.returns-in-Err-take_next
returns-in-Err-take_next g c =
    let F = c.args.formula.now in
    let start = g.D.Desk.told c.args.desk.now in
    let now = g.D.Desk.told c.advance.new.desk in
    let p = c.advance.new.self in
    let came = c.loop-more.invariant.0 in
    let done = c.loop-more.invariant.1 in
    let taken = c.loop-more.invariant.2 in
    let is = c.loop-more.invariant.3 in
    let on = c.advance.ensures.feed ∙ is.on in
    let step = c.advance.ensures.advanced proof_limit start came done is.read in
    let result : c.advance.result ≡ Ok true = c.in-Ok.is ∙ ap (λ (b : Bool). Ok b) c.if-not-more.false in
    let read = subst (λ (r : Result Bool FeedEnd). Answered proof_limit start now p (came ++ step.more) done r) result step.answer in
    let line = c.take_next.ensures.says F taken is.stands in
    let says = subst (λ (r : Result (Unit {0}) Untaken). TextSays F taken p.line.bytes c.take_next.new.checker r) c.in-Err-take_next.is line in
    record {
      text = came ++ step.more;
      came = subst (λ f. Came f start now (came ++ step.more)) on step.came;
      answer = subst (λ (r : Result ProofEnd CheckEnd). ProofSays F start now (came ++ step.more) r) (sym c.untaken_at.ensures)
          (line_ended F start now p c.take_next.new.checker c.loop-more.line (came ++ step.more) done taken c.in-Err-take_next.untaken
          is.so_far is.counted read on says);
    }

pub loop-more-preserved : goal.loop-more-preserved
loop-more-preserved g c =
    let F = c.args.formula.now in
    let start = g.D.Desk.told c.args.desk.now in
    let now = g.D.Desk.told c.advance.new.desk in
    let p = c.advance.new.self in
    let came = c.loop-more.invariant.0 in
    let done = c.loop-more.invariant.1 in
    let taken = c.loop-more.invariant.2 in
    let is = c.loop-more.invariant.3 in
    let on = c.advance.ensures.feed ∙ is.on in
    let step = c.advance.ensures.advanced proof_limit start came done is.read in
    let result : c.advance.result ≡ Ok true = c.in-Ok.is ∙ ap (λ (b : Bool). Ok b) c.if-not-more.false in
    let read = subst (λ (r : Result Bool FeedEnd). Answered proof_limit start now p (came ++ step.more) done r) result step.answer in
    let line = c.take_next.ensures.says F taken is.stands in
    let leads : Leads F taken p.line.bytes c.take_next.new.checker =
    subst (λ (r : Result (Unit {0}) Untaken). TextSays F taken p.line.bytes c.take_next.new.checker r) c.in_default.is line in (
      came ++ step.more,
      done ++ p.line ∷ [],
      leads.after,
      checking_next F start now p c.loop-more.checker c.take_next.new.checker c.loop-more.line (came ++ step.more) done taken leads.after
          is.so_far is.counted read on leads.leads leads.stands,
    )
