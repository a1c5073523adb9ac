-- What was found out about the formula is so of the sample's.
use Rattle.std.proofs.Common.{subst}
use Rattle.cnf_core.specs.Formulas.{Cnf}
use Rattle.backbone_main.specs.Steps.Findings.{IsFinding}
use Rattle.backbone_main.proofs.sampling.tell.Goals as goal

pub returns-in-Ok : goal.returns-in-Ok
returns-in-Ok g c = λ workers some same says.
    let budget = c.args.sampling.settings.budget in
    c.put_finding.ensures workers
    (subst (λ (F : Cnf). IsFinding workers budget F c.in-Ok.finding) same (c.in-Ok.ensures workers budget some says))
