-- All of a report's evidence, as far as it is wanted.
use Rattle.backbone_main.proofs.Certified.{certified_backbone}
use Rattle.backbone_main.proofs.Replies.{tells_backbone, writable_report}
use Rattle.backbone_main.proofs.reply.whole.Goals as goal

pub returns-clause-writable : goal.returns-clause-writable
returns-clause-writable c = λ F is.
    writable_report c.args.files F c.args.report c.evidence_of.result c.evidence_of.ensures.proof c.evidence_of.ensures.drops is.report

pub returns-clause-says : goal.returns-clause-says
returns-clause-says c = λ F is.
    tells_backbone c.args.files F c.args.report c.evidence_of.result.proof c.evidence_of.result.witness
    c.evidence_of.ensures.proof c.evidence_of.ensures.witness c.evidence_of.ensures.drops is

pub returns-clause-certified : goal.returns-clause-certified
returns-clause-certified c = λ F is small.
    certified_backbone c.args.files F c.args.report c.evidence_of.result c.evidence_of.ensures.proof c.evidence_of.ensures.witness
    c.evidence_of.ensures.drops c.evidence_of.ensures.holds is small
