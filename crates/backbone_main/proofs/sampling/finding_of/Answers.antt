-- The literals of the backbone are no more than the variables; one full log is a list of one.
use Rattle.std.proofs.Common.{subst}
use Rattle.run_core.specs.declared.outcome.Outcome.{Outcome}
use Rattle.run_core.specs.Outcomes.{OutcomeSays}
use Rattle.backbone_main.proofs.Sampled.{few_fixes}
use Rattle.backbone_main.proofs.Replies.{spent_of_one}
use Rattle.backbone_main.proofs.sampling.finding_of.Goals as goal

pub summary_of-requires-clause-few : goal.summary_of-requires-clause-few
summary_of-requires-clause-few c =
    let F = c.args.formula.now in
    let ended = c.requires.ended in
    few_fixes F c.in-Complete.report c.deref.result.now c.deref.ensures.value c.vars.ensures.limits
    (subst (λ (o : Outcome). OutcomeSays F ended.workers ended.budget o) c.in-Complete.is ended.says)

pub returns-in-Unknown : goal.returns-in-Unknown
returns-in-Unknown c = λ workers budget some says.
    let F = c.args.formula.now in
    spent_of_one F budget c.in-Unknown._log (subst (λ (o : Outcome). OutcomeSays F workers budget o) c.in-Unknown.is says)
