-- What is said of the feeds, by what is said of the answer and of the rest.
use Rattle.std.proofs.Common.{◌≡◌, ◌≢◌, ℕ, ◌<◌, ◌≤◌, ◌-◌, ◌^◌, Bool, true, false, if◌then◌else◌, List, [], ◌++◌, Result, Ok, Err, length, refl, sym, ap, ◌∙◌, subst, inl, inr, arith, append-nil, true≢false}
use Rattle.std.specs.Prelude.{IsTrue, IsFalse}
use Rattle.std.proofs.lemmas.Bool.{cases_lt}
use Rattle.bone_desk.specs.Told.{Told, Took, Rose, feed_index}
use Rattle.bone_desk.specs.declared.desk.Act.{Act}
use Rattle.bone_desk.specs.declared.desk.Act.TheVariants.{Read}
use Rattle.bone_desk.specs.declared.desk.Feed.{Feed}
use Rattle.bone_desk.specs.declared.desk.Feed.TheVariants as feed
use Rattle.bone_desk.proofs.Steps.{took_more, counts_never_fall}
use Rattle.cnf_core.specs.Formulas.{Cnf}
use Rattle.text_lines.specs.Feeds.{Came, CameWhole}
use Rattle.answer_text.specs.declared.stage.LineFault.{LineFault}
use Rattle.answer_text.specs.declared.stage.LineFault.TheVariants as line
use Rattle.answer_text.specs.Reading.{Read as AnswerRead, reading_of}
use Rattle.answer_text.specs.declared.read.AnswerEnd.{AnswerEnd}
use Rattle.answer_text.specs.declared.read.AnswerEnd.TheVariants as answer_end
use Rattle.answer_text.specs.Answers.{IsFaulty, Ends}
use Rattle.witness_text.specs.Texts.{witness_reading}
use Rattle.bone_check.specs.declared.verdict.Verdict.{Verdict}
use Rattle.bone_check.specs.declared.verdict.Verdict.TheVariants.{NotVerified}
use Rattle.bone_check.specs.declared.verdict.CheckEnd.{CheckEnd}
use Rattle.bone_check.specs.declared.verdict.CheckEnd.TheVariants.{Fault, TooLong, Memory}
use Rattle.bone_check.specs.Verdicts.{verdict_of, proof_reading, answer_reason, answer_verdict, read_verdict}
use Rattle.bone_check.specs.ProofFeed.{IsLeft}
use Rattle.bone_check.specs.Checks.{Texts, AllCame, is_read, limit_of, Says, IsVerdict, ChecksAll, verdict_on}
use Rattle.bone_check.specs.Steps.Parts.{texts_of, ChecksRest}
use Rattle.bone_check.specs.Steps.Ending as ending
use Rattle.bone_check.proofs.Gathered.{came_none, ends_at_read, ends_after_read, all_came, untouched, all_within, at_end, Judge, judged_on}

-- a text that reads as an answer is judged as such
pub judged_answer : (F : Cnf) (answer proof witness : List ℕ) (r : AnswerRead) → reading_of F.vars answer ≡ Ok r
    → verdict_of F answer proof witness ≡ answer_verdict F r.stage r.fixed (proof_reading F proof) (witness_reading F.vars witness)
unfolding verdict_of
judged_answer F answer proof witness r reads =
    ap (λ given. read_verdict F given (proof_reading F proof) (witness_reading F.vars witness)) reads

-- and one that doesn't read by its fault
faulty_answer : (F : Cnf) (answer proof witness : List ℕ) (n : ℕ) (fault : LineFault)
    → reading_of F.vars answer ≡ Err (record { line = n; fault = fault })
    → verdict_of F answer proof witness ≡ NotVerified (answer_reason fault) n
unfolding verdict_of
faulty_answer F answer proof witness n fault reads =
    ap (λ given. read_verdict F given (proof_reading F proof) (witness_reading F.vars witness)) reads

-- the answer alone decides
pub answer_decides : (F : Cnf) (witness : Bool) (old new : Told) (answer : List ℕ) (verdict : Verdict) → Came feed.Answer old new answer
    → CameWhole feed.Answer (2 ^ 27) new answer → ((p w : List ℕ) → verdict_of F answer p w ≡ verdict)
    → ChecksAll F witness old new (Ok verdict)
answer_decides F witness old new answer verdict came whole decides = record {
  came = texts_of answer [] [];
  all = all_came witness old new new new answer [] [] came (came_none feed.Proof new) (came_none feed.Witness new) (λ isnt. untouched new);
  says = record {
    within = all_within answer [] [] whole.within (omega arith) (omega arith);
    whole = λ rest left.
        ap (λ (t : List ℕ). verdict_of F t ([] ++ rest feed.Proof) (if witness then [] ++ rest feed.Witness else []))
        (at_end feed.Answer new answer (rest feed.Answer) whole.whole (left feed.Answer))
        ∙ decides ([] ++ rest feed.Proof) (if witness then [] ++ rest feed.Witness else []);
  };
}

answer_fails : (F : Cnf) (witness : Bool) (old new : Told) (answer : List ℕ) (n : ℕ) (fault : LineFault) → Came feed.Answer old new answer
    → IsFaulty F.vars new answer n fault → ChecksAll F witness old new (Ok (NotVerified (answer_reason fault) n))
answer_fails F witness old new answer n fault came faulty =
    answer_decides F witness old new answer (NotVerified (answer_reason fault) n) came faulty.came
    (λ p w. faulty_answer F answer p w n fault faulty.reading)

-- the answer wasn't read
answer_ends : (F : Cnf) (witness : Bool) (old new : Told) (answer : List ℕ) (end : CheckEnd) → Came feed.Answer old new answer
    → Says witness old new (texts_of answer [] []) (verdict_on F witness) (Err end) → ChecksAll F witness old new (Err end)
answer_ends F witness old new answer end came says = record {
  came = texts_of answer [] [];
  all = all_came witness old new new new answer [] [] came (came_none feed.Proof new) (came_none feed.Witness new) (λ isnt. untouched new);
  says = says;
}

-- it doesn't read, or wasn't read
pub answer_unread : (F : Cnf) (witness : Bool) (old new : Told) (answer : List ℕ) (end : AnswerEnd) → Came feed.Answer old new answer
    → Ends F.vars old new answer (Err end) → ChecksAll F witness old new (ending.answer_end end)
answer_unread F witness old new answer (answer_end.BadLine n) came ends = answer_fails F witness old new answer n line.Bad came ends
answer_unread F witness old new answer (answer_end.NotSorted n) came ends = answer_fails F witness old new answer n line.NotSorted came ends
answer_unread F witness old new answer answer_end.Fault came ends =
    answer_ends F witness old new answer (Fault feed.Answer) came (refl, ends.rose, ends_at_read feed.Answer old new came.only)
answer_unread F witness old new answer answer_end.TooLong came ends =
    answer_ends F witness old new answer (TooLong feed.Answer) came (ends, ends_at_read feed.Answer old new came.only)
answer_unread F witness old new answer answer_end.Memory came ends = answer_ends F witness old new answer Memory came tt

rose_since : (act : Act) (old mid new : Told) → old.faults act ≤ mid.faults act → mid.faults act ≤ new.faults act → Rose act mid new
    → Rose act old new
rose_since act old mid new first second rose lt = elim (cases_lt (mid.faults act) (2 ^ 64 - 1)) [
  | inl below ↦ (let more = rose below in omega arith)
  | inr last ↦ omega arith
]

-- the answer is read before the other feeds
behind_answer : (witness : Bool) (f : Feed) → IsTrue (is_read witness f) → feed_index feed.Answer ≤ feed_index f
behind_answer witness feed.Text is = absurd (true≢false (sym is))
behind_answer witness feed.Answer is = omega arith
behind_answer witness feed.Proof is = omega arith
behind_answer witness feed.Witness is = omega arith

-- the rest decides
rest_says : (F : Cnf) (witness : Bool) (old mid new : Told) (answer proof evidence : List ℕ) (judge : Judge) (result : Result Verdict CheckEnd)
    → Came feed.Answer old mid answer → CameWhole feed.Answer (2 ^ 27) mid answer → AllCame witness mid new (texts_of [] proof evidence)
    → new.left feed.Answer ≡ mid.left feed.Answer
    → ((p w : List ℕ) → verdict_of F answer p w ≡ judge (proof_reading F p) (witness_reading F.vars w))
    → Says witness mid new (texts_of [] proof evidence) (judged_on F witness judge) result
    → Says witness old new (texts_of answer proof evidence) (verdict_on F witness) result
rest_says F witness old mid new answer proof evidence judge (Ok verdict) came whole all same decides says = record {
  within = all_within answer proof evidence whole.within (says.within feed.Proof) (says.within feed.Witness);
  whole = λ rest left.
      ap (λ (t : List ℕ). verdict_of F t (proof ++ rest feed.Proof) (if witness then evidence ++ rest feed.Witness else []))
      (at_end feed.Answer mid answer (rest feed.Answer) whole.whole (sym same ∙ left feed.Answer))
      ∙ decides (proof ++ rest feed.Proof) (if witness then evidence ++ rest feed.Witness else [])
      ∙ says.whole rest left;
}
rest_says F witness old mid new answer proof evidence judge (Err (Fault f)) came whole all same decides says = (
  says.0,
  rose_since (Read f) old mid new (counts_never_fall came.only.counts (Read f)) (all.never_falls (Read f)) says.1,
  ends_after_read feed.Answer f old mid new (behind_answer witness f says.0) came.only says.2,
)
rest_says F witness old mid new answer proof evidence judge (Err (TooLong feed.Text)) came whole all same decides says =
    absurd (omega (arith, says.0))
rest_says F witness old mid new answer proof evidence judge (Err (TooLong feed.Answer)) came whole all same decides says =
    absurd (omega (arith, says.0))
rest_says F witness old mid new answer proof evidence judge (Err (TooLong feed.Proof)) came whole all same decides says =
    (says.0, ends_after_read feed.Answer feed.Proof old mid new (omega arith) came.only says.1)
rest_says F witness old mid new answer proof evidence judge (Err (TooLong feed.Witness)) came whole all same decides says =
    (says.0, ends_after_read feed.Answer feed.Witness old mid new (omega arith) came.only says.1)
rest_says F witness old mid new answer proof evidence judge (Err Memory) came whole all same decides says = tt

both_came : (witness : Bool) (old mid new : Told) (answer proof evidence : List ℕ) → Came feed.Answer old mid answer → AllCame witness mid new (texts_of [] proof evidence)
    → AllCame witness old new (texts_of answer proof evidence)
both_came witness old mid new answer proof evidence came all =
    let first = all_came witness old mid mid mid answer [] [] came (came_none feed.Proof mid) (came_none feed.Witness mid) (λ isnt. untouched mid) in
    record {
      took = took first;
      unread = unread;
      put = λ p. all.put p ∙ first.put p;
      others = λ act no. all.others act no ∙ first.others act no;
      never_falls = λ act. let one = first.never_falls act in let two = all.never_falls act in omega arith;
    }
  where
    unread : (f : Feed) → IsFalse (is_read witness f) → texts_of answer proof evidence f ≡ []
    unread feed.Text isnt = refl
    unread feed.Answer isnt = absurd (true≢false isnt)
    unread feed.Proof isnt = absurd (true≢false isnt)
    unread feed.Witness isnt = all.unread feed.Witness isnt

    took : AllCame witness old mid (texts_of answer [] []) → (f : Feed) → Took f (texts_of answer proof evidence f) old new
    took first feed.Text = took_more feed.Text [] [] old mid new (first.took feed.Text) (all.took feed.Text)
    took first feed.Answer =
        subst (λ (t : List ℕ). Took feed.Answer t old new) (append-nil answer)
        (took_more feed.Answer answer [] old mid new (first.took feed.Answer) (all.took feed.Answer))
    took first feed.Proof = took_more feed.Proof [] proof old mid new (first.took feed.Proof) (all.took feed.Proof)
    took first feed.Witness = took_more feed.Witness [] evidence old mid new (first.took feed.Witness) (all.took feed.Witness)

pub rest_decides : (F : Cnf) (witness : Bool) (old mid new : Told) (answer : List ℕ) (judge : Judge) (result : Result Verdict CheckEnd)
    → Came feed.Answer old mid answer → CameWhole feed.Answer (2 ^ 27) mid answer
    → ((p w : List ℕ) → verdict_of F answer p w ≡ judge (proof_reading F p) (witness_reading F.vars w))
    → ChecksRest witness mid new (judged_on F witness judge) result → ChecksAll F witness old new result
rest_decides F witness old mid new answer judge result came whole decides rest = record {
  came = texts_of answer rest.proof rest.evidence;
  all = both_came witness old mid new answer rest.proof rest.evidence came rest.all;
  says = rest_says F witness old mid new answer rest.proof rest.evidence judge result came whole rest.all rest.answer_left decides rest.says;
}
