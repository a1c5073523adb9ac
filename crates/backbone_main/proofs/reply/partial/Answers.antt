-- Both lists are in order, and stand in the answer with their evidence.
use Rattle.std.proofs.Common.{sym, subst}
use Rattle.cnf_core.specs.Literals.{Literals}
use Rattle.answer_text.specs.AnswerText.{IsPartialInOrder}
use Rattle.backbone_main.proofs.Partial.{partial_in_order}
use Rattle.backbone_main.proofs.Replies.{tells_part, writable_report}
use Rattle.backbone_main.proofs.reply.partial.Goals as goal

pub returns-clause-order : goal.returns-clause-order
returns-clause-order c =
    c.answer_of_part.ensures.order
    (subst (λ (still : Literals). IsPartialInOrder c.args.report.fixes.items still) (sym c.in_ok-still.ensures)
    (partial_in_order c.args.formula.now c.args.report c.requires.report))

pub returns-clause-writable : goal.returns-clause-writable
returns-clause-writable c =
    writable_report c.args.files c.args.formula.now c.args.report c.evidence_of.result c.evidence_of.ensures.proof
    c.evidence_of.ensures.drops c.requires.report

pub returns-clause-says : goal.returns-clause-says
returns-clause-says c =
    tells_part c.args.files c.args.formula.now c.args.report c.in_ok-still.still.items c.answer_of_part.result
    c.evidence_of.result.proof c.evidence_of.result.witness c.answer_of_part.ensures.text c.in_ok-still.ensures
    c.evidence_of.ensures.proof c.evidence_of.ensures.witness c.evidence_of.ensures.drops c.requires
