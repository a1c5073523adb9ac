-- What is said of the feeds, by what is said of the proof and of the witness.
use Rattle.std.proofs.Common.{◌≡◌, ◌≢◌, ℕ, ◌<◌, ◌≤◌, ◌-◌, ◌^◌, ◌+◌, Bool, true, false, if◌then◌else◌, List, [], ◌∷◌, ◌++◌, Option, Some, None, Result, Ok, Err, length, refl, sym, ap, ◌∙◌, subst, arith, true≢false}
use Rattle.std.specs.Prelude.{IsTrue}
use Rattle.bone_desk.specs.Told.{Told, Rose}
use Rattle.bone_desk.specs.declared.desk.Act.TheVariants.{Read}
use Rattle.bone_desk.specs.declared.desk.Feed.{Feed}
use Rattle.bone_desk.specs.declared.desk.Feed.TheVariants as feed
use Rattle.cnf_core.specs.Literals.{Literals}
use Rattle.cnf_core.specs.Formulas.{Cnf}
use Rattle.lrat_lines.specs.declared.line.Line.{Line}
use Rattle.lrat_checker.specs.Checking.{Kept, StandsFor}
use Rattle.text_lines.specs.Readings.{FaultAt}
use Rattle.witness_text.specs.Reading.{Witnessed}
use Rattle.bone_check.specs.declared.verdict.Reason.{Reason}
use Rattle.bone_check.specs.declared.verdict.Reason.TheVariants.{NoEmpty}
use Rattle.bone_check.specs.declared.verdict.Verdict.{Verdict}
use Rattle.bone_check.specs.declared.verdict.Verdict.TheVariants.{NotVerified}
use Rattle.bone_check.specs.declared.verdict.CheckEnd.{CheckEnd}
use Rattle.bone_check.specs.declared.verdict.CheckEnd.TheVariants.{Fault, TooLong, Memory}
use Rattle.bone_check.specs.declared.proof.ProofEnd.TheVariants.{Taken, Fails}
use Rattle.bone_check.specs.declared.evidence.Evidence.{Evidence}
use Rattle.bone_check.specs.declared.evidence.Evidence.TheVariants.{Unasked, Tells, BadLine}
use Rattle.witness_text.specs.Texts.{told_by}
use Rattle.witness_text.proofs.ReadTells.{texts_tell}
use Rattle.bone_check.specs.Steps.Verified.{is_verified}
use Rattle.bone_check.proofs.Witnessed.{goes_on}
use Rattle.bone_check.specs.Tests.{at_place, ◌then◌, each_from}
use Rattle.bone_check.specs.Proving.{has_empty, unit_fault}
use Rattle.bone_check.specs.Verdicts.{unsat_verdict, no_lines, sat_verdict, evidence_verdict}
use Rattle.bone_check.specs.ProofFeed.{ReadsProof, ProofSays}
use Rattle.bone_check.specs.Checks.{Texts, EndsAtFeed, Says, is_read, limit_of}
use Rattle.bone_check.specs.Steps.Parts.{texts_of, ChecksRest}
use Rattle.bone_check.specs.Steps.Evidence.{ReadsEvidence, EvidenceSays, IsUnasked, reading_told, IsReadEvidence, JudgesEvidence}
use Rattle.bone_check.proofs.Gathered.{came_none, ends_at_read, ends_after_read, all_came, untouched, IsUntouched, Judge, judged_on, fails_in_proof, decided_by_proof, decided_by_both}

proof_end_says : (F : Cnf) (witness : Bool) (old new : Told) (text : List ℕ) (means : Texts → Verdict) (end : CheckEnd)
    → EndsAtFeed feed.Proof old new → ProofSays F old new text (Err end) → Says witness old new (texts_of [] text []) means (Err end)
proof_end_says F witness old new text means (Fault f) behind said =
    subst (λ (x : Feed). IsTrue (is_read witness x) × Rose (Read x) old new × EndsAtFeed x old new) (sym said.0) (refl, said.1.rose, behind)
proof_end_says F witness old new text means (TooLong f) behind said =
    subst (λ (x : Feed). (limit_of x < length (texts_of [] text [] x)) × EndsAtFeed x old new) (sym said.0) (said.1, behind)
proof_end_says F witness old new text means Memory behind said = tt

-- the proof wasn't read
pub proof_ends : (F : Cnf) (witness : Bool) (old new : Told) (means : Texts → Verdict) (end : CheckEnd) → ReadsProof F old new (Err end)
    → ChecksRest witness old new means (Err end)
proof_ends F witness old new means end reads = record {
  proof = reads.text;
  evidence = [];
  answer_left = reads.came.only.left feed.Answer (λ e. cc e);
  all = all_came witness old old new new [] reads.text [] (came_none feed.Answer old) reads.came (came_none feed.Witness new) (λ isnt. untouched new);
  says = proof_end_says F witness old new reads.text means end (ends_at_read feed.Proof old new reads.came.only) reads.answer;
}

-- one of its lines fails
pub proof_fails : (F : Cnf) (witness : Bool) (old new : Told) (judge : Judge) (reason : Reason) (line : ℕ)
    → ((e : FaultAt Reason) (w : Result Witnessed (FaultAt (Unit {0}))) → judge (Err e) w ≡ NotVerified e.fault e.line)
    → ReadsProof F old new (Ok (Fails reason line)) → ChecksRest witness old new (judged_on F witness judge) (Ok (NotVerified reason line))
proof_fails F witness old new judge reason line decides reads = record {
  proof = reads.text;
  evidence = [];
  answer_left = reads.came.only.left feed.Answer (λ e. cc e);
  all = all_came witness old old new new [] reads.text [] (came_none feed.Answer old) reads.came (came_none feed.Witness new) (λ isnt. untouched new);
  says = fails_in_proof F witness judge new reads.text reason line decides reads.answer;
}

-- what it reaches decides
pub proof_decides : (F : Cnf) (witness : Bool) (old new : Told) (judge : Judge) (kept : Kept) (verdict : Verdict)
    → ((lines : List Line) → StandsFor kept F lines → (w : Result Witnessed (FaultAt (Unit {0}))) → judge (Ok lines) w ≡ verdict)
    → ReadsProof F old new (Ok (Taken kept)) → ChecksRest witness old new (judged_on F witness judge) (Ok verdict)
proof_decides F witness old new judge kept verdict decides reads = record {
  proof = reads.text;
  evidence = [];
  answer_left = reads.came.only.left feed.Answer (λ e. cc e);
  all = all_came witness old old new new [] reads.text [] (came_none feed.Answer old) reads.came (came_none feed.Witness new) (λ isnt. untouched new);
  says = decided_by_proof F witness judge new reads.text kept verdict reads.answer (decides reads.answer.lines reads.answer.stands);
}

-- what isn't asked for isn't touched, and gives no error
unasked_same : {n : ℕ} {witness : Bool} {mid new : Told} {result : Result Evidence CheckEnd} → (tells : ReadsEvidence n witness mid new result)
    → witness ≡ false → IsUntouched mid new tells.text
unasked_same tells isnt = record { none = (tells.unasked isnt).none; same = (tells.unasked isnt).same }

asked_at_err : {mid new : Told} {text : List ℕ} {end : CheckEnd} (witness : Bool) → (witness ≡ false → IsUnasked mid new text (Err end))
    → witness ≡ true
asked_at_err true unasked = refl
asked_at_err false unasked = absurd (true≢false (sym (unasked refl).fine))

evidence_end_says : (F : Cnf) (witness : Bool) (old mid new : Told) (n : ℕ) (proof text : List ℕ) (means : Texts → Verdict) (end : CheckEnd)
    → mid.faults (Read feed.Witness) ≡ old.faults (Read feed.Witness) → EndsAtFeed feed.Witness old new
    → EvidenceSays n witness mid new text (Err end) → witness ≡ true → Says witness old new (texts_of [] proof text) means (Err end)
evidence_end_says F witness old mid new n proof text means (Fault f) same behind said asked =
    let rose : Rose (Read feed.Witness) old new =
    subst (λ (k : ℕ). k < 2 ^ 64 - 1 → k < new.faults (Read feed.Witness)) same said.1.rose in
    subst (λ (x : Feed). IsTrue (is_read witness x) × Rose (Read x) old new × EndsAtFeed x old new) (sym said.0) (asked, rose, behind)
evidence_end_says F witness old mid new n proof text means (TooLong f) same behind said asked =
    subst (λ (x : Feed). (limit_of x < length (texts_of [] proof text x)) × EndsAtFeed x old new) (sym said.0) (said.1, behind)
evidence_end_says F witness old mid new n proof text means Memory same behind said asked = tt

-- the witness wasn't read
pub evidence_ends : (F : Cnf) (witness : Bool) (old mid new : Told) (n : ℕ) (means : Texts → Verdict) (kept : Kept) (end : CheckEnd)
    → ReadsProof F old mid (Ok (Taken kept)) → ReadsEvidence n witness mid new (Err end) → ChecksRest witness old new means (Err end)
evidence_ends F witness old mid new n means kept end reads tells = record {
  proof = reads.text;
  evidence = tells.text;
  answer_left = tells.came.only.left feed.Answer (λ e. cc e) ∙ reads.came.only.left feed.Answer (λ e. cc e);
  all = all_came witness old old mid new [] reads.text tells.text (came_none feed.Answer old) reads.came tells.came (unasked_same tells);
  says = evidence_end_says F witness old mid new n reads.text tells.text means end
      (reads.came.only.counts.others (Read feed.Witness) (λ e. cc e))
      (ends_after_read feed.Proof feed.Witness old mid new (omega arith) reads.came.only (ends_at_read feed.Witness mid new tells.came.only))
      tells.answer (asked_at_err witness tells.unasked);
}

-- both decide
pub both_decide : (F : Cnf) (witness : Bool) (old mid new : Told) (judge : Judge) (kept : Kept) (evidence : Evidence) (verdict : Verdict)
    → ((lines : List Line) → StandsFor kept F lines → judge (Ok lines) (reading_told F.vars evidence) ≡ verdict)
    → ReadsProof F old mid (Ok (Taken kept)) → ReadsEvidence F.vars witness mid new (Ok evidence)
    → ChecksRest witness old new (judged_on F witness judge) (Ok verdict)
both_decide F witness old mid new judge kept evidence verdict decides reads tells = record {
  proof = reads.text;
  evidence = tells.text;
  answer_left = tells.came.only.left feed.Answer (λ e. cc e) ∙ reads.came.only.left feed.Answer (λ e. cc e);
  all = all_came witness old old mid new [] reads.text tells.text (came_none feed.Answer old) reads.came tells.came (unasked_same tells);
  says = decided_by_both F witness judge mid new reads.text tells.text kept evidence verdict reads.answer tells.came tells.answer
      (λ isnt. (tells.unasked isnt).none)
      (decides reads.answer.lines reads.answer.stands);
}

-- without the empty clause
pub no_empty : (F : Cnf) (lines : List Line) (w : Result Witnessed (FaultAt (Unit {0}))) → has_empty F lines ≡ false
    → unsat_verdict F (Ok lines) w ≡ NotVerified NoEmpty 1
no_empty F lines w none = ap (λ (b : Bool). at_place 1 (if b then None else Some NoEmpty) then no_lines w) none

pub some_empty : (F : Cnf) (lines : List Line) (w : Result Witnessed (FaultAt (Unit {0}))) → has_empty F lines ≡ true
    → unsat_verdict F (Ok lines) w ≡ no_lines w
some_empty F lines w some = ap (λ (b : Bool). at_place 1 (if b then None else Some NoEmpty) then no_lines w) some

-- evidence that was read tells a witness
pub evidence_is_read : (n : ℕ) (witness : Bool) (mid new : Told) (evidence : Evidence) → ReadsEvidence n witness mid new (Ok evidence)
    → IsReadEvidence n evidence
evidence_is_read n witness mid new Unasked tells = tt
evidence_is_read n witness mid new (Tells w) tells = texts_tell n tells.text (told_by n w) tells.answer.reading
evidence_is_read n witness mid new (BadLine line) tells = tt

-- the printed literals pass, and the evidence is judged
pub evidence_judged : (F : Cnf) (witness : Bool) (old mid new : Told) (fixed : Literals) (kept : Kept) (evidence : Evidence)
    (result : Result Verdict CheckEnd) {units : Verdict}
    → ((lines : List Line) → StandsFor kept F lines → each_from (unit_fault F lines) 2 fixed ≡ units) → is_verified units ≡ true
    → ReadsProof F old mid (Ok (Taken kept)) → ReadsEvidence F.vars witness mid new (Ok evidence) → JudgesEvidence F fixed evidence result
    → ChecksRest witness old new (judged_on F witness (sat_verdict F fixed)) result
evidence_judged F witness old mid new fixed kept evidence (Ok verdict) {units} passed verified reads tells judged =
    both_decide F witness old mid new (sat_verdict F fixed) kept evidence verdict
    (λ lines stands.
    ap (λ (v : Verdict). v then evidence_verdict F fixed (reading_told F.vars evidence)) (passed lines stands)
    ∙ sym (goes_on units (evidence_verdict F fixed (reading_told F.vars evidence)) verified) ∙ sym judged) reads tells
evidence_judged F witness old mid new fixed kept evidence (Err Memory) passed verified reads tells judged = record {
  proof = reads.text;
  evidence = tells.text;
  answer_left = tells.came.only.left feed.Answer (λ e. cc e) ∙ reads.came.only.left feed.Answer (λ e. cc e);
  all = all_came witness old old mid new [] reads.text tells.text (came_none feed.Answer old) reads.came tells.came (unasked_same tells);
  says = tt;
}
evidence_judged F witness old mid new fixed kept evidence (Err (Fault f)) passed verified reads tells judged = absurd judged
evidence_judged F witness old mid new fixed kept evidence (Err (TooLong f)) passed verified reads tells judged = absurd judged
