use Rattle.std.proofs.Common.{◌≡◌, ◌∙◌, ℕ, Result, Ok, sym, ap, subst}
use Rattle.cnf_core.specs.Literals.{Literals}
use Rattle.answer_text.specs.declared.answer.Answer.{Answer}
use Rattle.answer_text.specs.declared.read.AnswerEnd.{AnswerEnd}
use Rattle.answer_text.specs.declared.stage.Stage.{Stage}
use Rattle.answer_text.specs.Answers.{ReadsAnswer, Ends}
use Rattle.witness_text.specs.Texts.{witness_reading}
use Rattle.bone_check.specs.declared.verdict.Reason.TheVariants.{Unfinished}
use Rattle.bone_check.specs.declared.verdict.Verdict.{Verdict}
use Rattle.bone_check.specs.declared.verdict.Verdict.TheVariants.{NotVerified}
use Rattle.bone_check.specs.declared.verdict.CheckEnd.{CheckEnd}
use Rattle.bone_check.specs.Verdicts.{unsat_verdict, sat_verdict, answer_verdict, proof_reading}
use Rattle.bone_check.specs.Checks.{ChecksAll}
use Rattle.bone_check.proofs.Answered.{judged_answer, answer_decides, answer_unread, rest_decides}
use Rattle.cnf_core.specs.Literals.{AreWithin}
use Rattle.answer_text.proofs.SoFar.{sat_read}
use Rattle.bone_check.proofs.check.check_all.Goals as goal

pub returns-in-Err : goal.returns-in-Err
returns-in-Err g c =
    let F = c.args.formula.now in
    let old = g.D.Desk.told c.args.desk.now in
    let new = g.D.Desk.told c.read_answer.new.desk in
    let reads = subst (λ (n : ℕ). ReadsAnswer n old new c.read_answer.result) c.vars.ensures.value c.read_answer.ensures in
    let ends = subst (λ (r : Result Answer AnswerEnd). Ends F.vars old new reads.text r) c.in-Err.is reads.ends in
    subst (λ (r : Result Verdict CheckEnd). ChecksAll F c.args.witness old new r) (sym c.answer_end.ensures)
    (answer_unread F c.args.witness old new reads.text c.in-Err.end reads.came ends)

pub returns-in-Ok-Unsat : goal.returns-in-Ok-Unsat
returns-in-Ok-Unsat g c =
    let F = c.args.formula.now in
    let old = g.D.Desk.told c.args.desk.now in
    let mid = g.D.Desk.told c.read_answer.new.desk in
    let reads = subst (λ (n : ℕ). ReadsAnswer n old mid c.read_answer.result) c.vars.ensures.value c.read_answer.ensures in
    let ends = subst (λ (r : Result Answer AnswerEnd). Ends F.vars old mid reads.text r) (c.in-Ok-Unsat.is ∙ ap (λ (a : Answer). Ok a) c.in-Ok-Unsat.field-0-is) reads.ends in
    let new = g.D.Desk.told c.check_unsat.new.desk in
    rest_decides F c.args.witness old mid new reads.text (unsat_verdict F) c.check_unsat.result reads.came ends.came
    (λ p w. judged_answer F reads.text p w ends.read ends.reading
    ∙ ap (λ (st : Stage). answer_verdict F st ends.read.fixed (proof_reading F p) (witness_reading F.vars w)) ends.says)
    c.check_unsat.ensures

pub check_sat-requires : goal.check_sat-requires
check_sat-requires g c =
    let F = c.args.formula.now in
    let old = g.D.Desk.told c.args.desk.now in
    let mid = g.D.Desk.told c.read_answer.new.desk in
    let reads = subst (λ (n : ℕ). ReadsAnswer n old mid c.read_answer.result) c.vars.ensures.value c.read_answer.ensures in
    let ends = subst (λ (r : Result Answer AnswerEnd). Ends F.vars old mid reads.text r) (c.in-Ok-Sat.is ∙ ap (λ (a : Answer). Ok a) c.in-Ok-Sat.field-0-is) reads.ends in
    let within = (sat_read F.vars reads.text ends.read c.vars.ensures.limits.vars_limit ends.reading ends.says.0).within in
    subst (λ (ls : Literals). AreWithin F.vars ls) (ends.says.1 ∙ sym c.deref.ensures.value) within

pub returns-in-Ok-Sat : goal.returns-in-Ok-Sat
returns-in-Ok-Sat g c =
    let F = c.args.formula.now in
    let old = g.D.Desk.told c.args.desk.now in
    let mid = g.D.Desk.told c.read_answer.new.desk in
    let reads = subst (λ (n : ℕ). ReadsAnswer n old mid c.read_answer.result) c.vars.ensures.value c.read_answer.ensures in
    let ends = subst (λ (r : Result Answer AnswerEnd). Ends F.vars old mid reads.text r) (c.in-Ok-Sat.is ∙ ap (λ (a : Answer). Ok a) c.in-Ok-Sat.field-0-is) reads.ends in
    let new = g.D.Desk.told c.check_sat.new.desk in
    let same : ends.read.fixed ≡ c.deref.result.now = ends.says.1 ∙ sym c.deref.ensures.value in
    rest_decides F c.args.witness old mid new reads.text (sat_verdict F c.deref.result.now) c.check_sat.result reads.came ends.came
    (λ p w. judged_answer F reads.text p w ends.read ends.reading
    ∙ ap (λ (st : Stage). answer_verdict F st ends.read.fixed (proof_reading F p) (witness_reading F.vars w)) ends.says.0
    ∙ ap (λ (ls : Literals). sat_verdict F ls (proof_reading F p) (witness_reading F.vars w)) same)
    c.check_sat.ensures

pub returns-in-Ok-Partial : goal.returns-in-Ok-Partial
returns-in-Ok-Partial g c =
    let F = c.args.formula.now in
    let old = g.D.Desk.told c.args.desk.now in
    let mid = g.D.Desk.told c.read_answer.new.desk in
    let reads = subst (λ (n : ℕ). ReadsAnswer n old mid c.read_answer.result) c.vars.ensures.value c.read_answer.ensures in
    let ends = subst (λ (r : Result Answer AnswerEnd). Ends F.vars old mid reads.text r) (c.in-Ok-Partial.is ∙ ap (λ (a : Answer). Ok a) c.in-Ok-Partial.field-0-is) reads.ends in
    let stage_is = ends.says.0 in
    subst (λ (v : Verdict). ChecksAll F c.args.witness old mid (Ok v)) (sym c.not_verified.ensures)
    (answer_decides F c.args.witness old mid reads.text (NotVerified Unfinished 1) reads.came ends.came
    (λ p w. judged_answer F reads.text p w ends.read ends.reading
    ∙ ap (λ (st : Stage). answer_verdict F st ends.read.fixed (proof_reading F p) (witness_reading F.vars w)) stage_is))

pub returns-in-Ok-Unknown : goal.returns-in-Ok-Unknown
returns-in-Ok-Unknown g c =
    let F = c.args.formula.now in
    let old = g.D.Desk.told c.args.desk.now in
    let mid = g.D.Desk.told c.read_answer.new.desk in
    let reads = subst (λ (n : ℕ). ReadsAnswer n old mid c.read_answer.result) c.vars.ensures.value c.read_answer.ensures in
    let ends = subst (λ (r : Result Answer AnswerEnd). Ends F.vars old mid reads.text r) (c.in-Ok-Unknown.is ∙ ap (λ (a : Answer). Ok a) c.in-Ok-Unknown.field-0-is) reads.ends in
    subst (λ (v : Verdict). ChecksAll F c.args.witness old mid (Ok v)) (sym c.not_verified-in-Ok-Unknown.ensures)
    (answer_decides F c.args.witness old mid reads.text (NotVerified Unfinished 1) reads.came ends.came
    (λ p w. judged_answer F reads.text p w ends.read ends.reading
    ∙ ap (λ (st : Stage). answer_verdict F st ends.read.fixed (proof_reading F p) (witness_reading F.vars w)) ends.says))
