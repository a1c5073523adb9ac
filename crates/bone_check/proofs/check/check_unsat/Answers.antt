use Rattle.std.proofs.Common.{◌∙◌, ℕ, Result, Ok, refl, sym, ap, subst}
use Rattle.bone_check.specs.declared.verdict.Reason.TheVariants.{NoEmpty}
use Rattle.bone_check.specs.declared.verdict.Verdict.{Verdict}
use Rattle.bone_check.specs.declared.verdict.Verdict.TheVariants.{NotVerified}
use Rattle.bone_check.specs.declared.verdict.CheckEnd.{CheckEnd}
use Rattle.bone_check.specs.declared.proof.ProofEnd.{ProofEnd}
use Rattle.bone_check.specs.declared.evidence.Evidence.{Evidence}
use Rattle.bone_check.specs.Verdicts.{unsat_verdict}
use Rattle.bone_check.specs.ProofFeed.{ReadsProof}
use Rattle.bone_check.specs.Steps.Parts.{unsat_on, ChecksRest}
use Rattle.bone_check.specs.Steps.Evidence.{ReadsEvidence, reading_told}
use Rattle.bone_check.proofs.Reaching.{has_empty_told}
use Rattle.bone_check.proofs.Concluded.{proof_ends, proof_fails, proof_decides, evidence_ends, both_decide, no_empty, some_empty}
use Rattle.bone_check.proofs.check.check_unsat.Goals as goal

pub returns-in-Err : goal.returns-in-Err
returns-in-Err g c =
    let F = c.args.formula.now in
    let old = g.D.Desk.told c.args.desk.now in
    let new = g.D.Desk.told c.check_proof.new.desk in
    proof_ends F c.args.witness old new (unsat_on F c.args.witness) c.in-Err.end
    (subst (λ (r : Result ProofEnd CheckEnd). ReadsProof F old new r) c.in-Err.is c.check_proof.ensures)

pub returns-in-Fails : goal.returns-in-Fails
returns-in-Fails g c =
    let F = c.args.formula.now in
    let old = g.D.Desk.told c.args.desk.now in
    let new = g.D.Desk.told c.check_proof.new.desk in
    let reads = subst (λ (r : Result ProofEnd CheckEnd). ReadsProof F old new r)
    (c.in-Ok.is ∙ ap (λ (p : ProofEnd). Ok p) c.in-Fails.is) c.check_proof.ensures in
    subst (λ (v : Verdict). ChecksRest c.args.witness old new (unsat_on F c.args.witness) (Ok v)) (sym c.not_verified.ensures)
    (proof_fails F c.args.witness old new (unsat_verdict F) c.in-Fails.reason c.in-Fails.line (λ e w. refl) reads)

pub returns : goal.returns
returns g c =
    let F = c.args.formula.now in
    let old = g.D.Desk.told c.args.desk.now in
    let mid = g.D.Desk.told c.check_proof.new.desk in
    let new = g.D.Desk.told c.read_evidence.new.desk in
    let reads = subst (λ (r : Result ProofEnd CheckEnd). ReadsProof F old mid r)
    (c.in-Ok.is ∙ ap (λ (p : ProofEnd). Ok p) c.in-Taken.is) c.check_proof.ensures in
    let tells = subst (λ (r : Result Evidence CheckEnd). ReadsEvidence c.vars.result c.args.witness mid new r) c.in-Err-read_evidence.is c.read_evidence.ensures in
    evidence_ends F c.args.witness old mid new c.vars.result (unsat_on F c.args.witness) c.in-Taken.checker c.in-Err-read_evidence.end reads tells

pub returns-then-not-has_empty : goal.returns-then-not-has_empty
returns-then-not-has_empty g c =
    let F = c.args.formula.now in
    let old = g.D.Desk.told c.args.desk.now in
    let mid = g.D.Desk.told c.check_proof.new.desk in
    let reads = subst (λ (r : Result ProofEnd CheckEnd). ReadsProof F old mid r)
    (c.in-Ok.is ∙ ap (λ (p : ProofEnd). Ok p) c.in-Taken.is) c.check_proof.ensures in
    subst (λ (v : Verdict). ChecksRest c.args.witness old mid (unsat_on F c.args.witness) (Ok v)) (sym c.not_verified-then-not-has_empty.ensures)
    (proof_decides F c.args.witness old mid (unsat_verdict F) c.in-Taken.checker (NotVerified NoEmpty 1)
    (λ lines stands told. no_empty F lines told
    (sym (has_empty_told F lines c.has_empty.result (c.has_empty.ensures F lines stands)) ∙ c.if-not-has_empty.true)) reads)

pub returns-in-Ok-read_evidence : goal.returns-in-Ok-read_evidence
returns-in-Ok-read_evidence g c =
    let F = c.args.formula.now in
    let old = g.D.Desk.told c.args.desk.now in
    let mid = g.D.Desk.told c.check_proof.new.desk in
    let new = g.D.Desk.told c.read_evidence.new.desk in
    let reads = subst (λ (r : Result ProofEnd CheckEnd). ReadsProof F old mid r)
    (c.in-Ok.is ∙ ap (λ (p : ProofEnd). Ok p) c.in-Taken.is) c.check_proof.ensures in
    let tells = subst (λ (r : Result Evidence CheckEnd). ReadsEvidence F.vars c.args.witness mid new r) c.in-Ok-read_evidence.is
    (subst (λ (n : ℕ). ReadsEvidence n c.args.witness mid new c.read_evidence.result) c.vars.ensures.value c.read_evidence.ensures) in
    both_decide F c.args.witness old mid new (unsat_verdict F) c.in-Taken.checker c.in-Ok-read_evidence.evidence c.judge_lack.result
    (λ lines stands. some_empty F lines (reading_told F.vars c.in-Ok-read_evidence.evidence)
    (sym (has_empty_told F lines c.has_empty.result (c.has_empty.ensures F lines stands)) ∙ c.if-not-has_empty.false)
    ∙ sym (c.judge_lack.ensures F.vars)) reads tells
