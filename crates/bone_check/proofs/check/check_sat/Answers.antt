use Rattle.std.proofs.Common.{◌∙◌, ℕ, Result, Ok, refl, sym, ap, subst}
use Rattle.bone_check.specs.declared.verdict.Verdict.{Verdict}
use Rattle.bone_check.specs.declared.verdict.CheckEnd.{CheckEnd}
use Rattle.bone_check.specs.declared.proof.ProofEnd.{ProofEnd}
use Rattle.bone_check.specs.declared.evidence.Evidence.{Evidence}
use Rattle.bone_check.specs.Verdicts.{sat_verdict}
use Rattle.bone_check.specs.ProofFeed.{ReadsProof}
use Rattle.bone_check.specs.Steps.Parts.{sat_on, ChecksRest}
use Rattle.bone_check.specs.Steps.Evidence.{ReadsEvidence}
use Rattle.bone_check.proofs.Witnessed.{stops}
use Rattle.bone_check.proofs.Concluded.{proof_ends, proof_fails, proof_decides, evidence_ends, evidence_judged, evidence_is_read}
use Rattle.bone_check.specs.Tests.{◌then◌}
use Rattle.bone_check.specs.Verdicts.{evidence_verdict}
use Rattle.bone_check.proofs.check.check_sat.Goals as goal

pub returns-in-Err : goal.returns-in-Err
returns-in-Err g c =
    let F = c.args.formula.now in
    let old = g.D.Desk.told c.args.desk.now in
    let new = g.D.Desk.told c.check_proof.new.desk in
    proof_ends F c.args.witness old new (sat_on F c.args.witness c.args.fixed.now) c.in-Err.end
    (subst (λ (r : Result ProofEnd CheckEnd). ReadsProof F old new r) c.in-Err.is c.check_proof.ensures)

pub returns-in-Fails : goal.returns-in-Fails
returns-in-Fails g c =
    let F = c.args.formula.now in
    let old = g.D.Desk.told c.args.desk.now in
    let new = g.D.Desk.told c.check_proof.new.desk in
    let reads = subst (λ (r : Result ProofEnd CheckEnd). ReadsProof F old new r)
    (c.in-Ok.is ∙ ap (λ (p : ProofEnd). Ok p) c.in-Fails.is) c.check_proof.ensures in
    subst (λ (v : Verdict). ChecksRest c.args.witness old new (sat_on F c.args.witness c.args.fixed.now) (Ok v)) (sym c.not_verified.ensures)
    (proof_fails F c.args.witness old new (sat_verdict F c.args.fixed.now) c.in-Fails.reason c.in-Fails.line (λ e w. refl) reads)

pub returns : goal.returns
returns g c =
    let F = c.args.formula.now in
    let old = g.D.Desk.told c.args.desk.now in
    let mid = g.D.Desk.told c.check_proof.new.desk in
    let new = g.D.Desk.told c.read_evidence.new.desk in
    let reads = subst (λ (r : Result ProofEnd CheckEnd). ReadsProof F old mid r)
    (c.in-Ok.is ∙ ap (λ (p : ProofEnd). Ok p) c.in-Taken.is) c.check_proof.ensures in
    let tells = subst (λ (r : Result Evidence CheckEnd). ReadsEvidence c.vars.result c.args.witness mid new r) c.in-Err-read_evidence.is c.read_evidence.ensures in
    evidence_ends F c.args.witness old mid new c.vars.result (sat_on F c.args.witness c.args.fixed.now) c.in-Taken.checker c.in-Err-read_evidence.end reads tells

pub returns-then-not-is_verified : goal.returns-then-not-is_verified
returns-then-not-is_verified g c =
    let F = c.args.formula.now in
    let fixed = c.args.fixed.now in
    let old = g.D.Desk.told c.args.desk.now in
    let mid = g.D.Desk.told c.check_proof.new.desk in
    let reads = subst (λ (r : Result ProofEnd CheckEnd). ReadsProof F old mid r)
    (c.in-Ok.is ∙ ap (λ (p : ProofEnd). Ok p) c.in-Taken.is) c.check_proof.ensures in
    proof_decides F c.args.witness old mid (sat_verdict F fixed) c.in-Taken.checker c.judge_units-units.result
    (λ lines stands told.
    sym (stops c.judge_units-units.result (evidence_verdict F fixed told) (sym c.is_verified.ensures ∙ c.if-not-is_verified.true)
    ∙ ap (λ (v : Verdict). v then evidence_verdict F fixed told) (c.judge_units-units.ensures lines stands))) reads

pub judge_evidence-requires-clause-evidence : goal.judge_evidence-requires-clause-evidence
judge_evidence-requires-clause-evidence g c =
    let F = c.args.formula.now in
    let mid = g.D.Desk.told c.check_proof.new.desk in
    let new = g.D.Desk.told c.read_evidence.new.desk in
    evidence_is_read F.vars c.args.witness mid new c.in-Ok-read_evidence.evidence
    (subst (λ (r : Result Evidence CheckEnd). ReadsEvidence F.vars c.args.witness mid new r) c.in-Ok-read_evidence.is
    (subst (λ (n : ℕ). ReadsEvidence n c.args.witness mid new c.read_evidence.result) c.vars.ensures.value c.read_evidence.ensures))

pub returns-in-Ok-read_evidence : goal.returns-in-Ok-read_evidence
returns-in-Ok-read_evidence g c =
    let F = c.args.formula.now in
    let fixed = c.args.fixed.now in
    let old = g.D.Desk.told c.args.desk.now in
    let mid = g.D.Desk.told c.check_proof.new.desk in
    let new = g.D.Desk.told c.read_evidence.new.desk in
    let reads = subst (λ (r : Result ProofEnd CheckEnd). ReadsProof F old mid r)
    (c.in-Ok.is ∙ ap (λ (p : ProofEnd). Ok p) c.in-Taken.is) c.check_proof.ensures in
    let tells = subst (λ (r : Result Evidence CheckEnd). ReadsEvidence F.vars c.args.witness mid new r) c.in-Ok-read_evidence.is
    (subst (λ (n : ℕ). ReadsEvidence n c.args.witness mid new c.read_evidence.result) c.vars.ensures.value c.read_evidence.ensures) in
    evidence_judged F c.args.witness old mid new fixed c.in-Taken.checker c.in-Ok-read_evidence.evidence c.judge_evidence.result
    (λ lines stands.
    sym (c.judge_units-units.ensures lines stands)) (sym c.is_verified.ensures ∙ c.if-not-is_verified.false) reads tells c.judge_evidence.ensures
