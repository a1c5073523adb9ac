-- The formula was read, and the files were judged by it.
use Rattle.std.proofs.Common.{◌≤◌, ◌^◌, Bool, subst}
use Rattle.cnf_core.specs.Formulas.{Cnf}
use Rattle.backbone_main.specs.Steps.Finish.{asked_check}
use Rattle.backbone_main.specs.Steps.Judging.{IsJudged}
use Rattle.backbone_main.proofs.Judging.{check_judged}
use Rattle.backbone_main.proofs.check.check.Goals as goal

pub returns-in-Ok : goal.returns-in-Ok
returns-in-Ok g c = λ workers.
    let k = c.args.checking.now in
    let told = g.D.Desk.told in
    let F = c.in-Ok.formula in
    let vars = subst (λ (G : Cnf). G.vars ≤ 2 ^ 20) c.formula.view_is c.formula.invariant.limits.vars_limit in
    check_judged workers (asked_check k) F c.judge.result (told c.args.desk.now) (told c.open_feeds.new.desk) (told c.read_text.new.desk)
    (told c.judge.new.desk) c.verified_answer_is_right.ensures vars c.open_feeds.ensures.opens c.read_text.ensures.only
    c.in-Ok.ensures.read
    (subst (λ (b : Bool). IsJudged F b c.judge.result (told c.read_text.new.desk) (told c.judge.new.desk)) c.names_witness.ensures c.judge.ensures)
