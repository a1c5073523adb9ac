-- What came of the three feeds, one after another.
use Rattle.std.proofs.Common.{◌≡◌, ◌≢◌, ℕ, ◌<◌, ◌≤◌, ◌^◌, Bool, true, false, if◌then◌else◌, List, [], ◌++◌, Result, Ok, Err, length, refl, sym, ap, ◌∙◌, subst, arith, append-nil, true≢false}
use Rattle.std.specs.Prelude.{IsTrue, IsFalse, Option, option_map}
use Rattle.bone_desk.specs.Told.{Told, Took, ReadsOnly, feed_index}
use Rattle.bone_desk.specs.declared.desk.Act.{Act}
use Rattle.bone_desk.specs.declared.desk.Act.TheVariants.{Read}
use Rattle.bone_desk.specs.declared.desk.Feed.{Feed}
use Rattle.bone_desk.specs.declared.desk.Feed.TheVariants as feed
use Rattle.bone_desk.proofs.Steps.{took_none, reads_none, counts_never_fall}
use Rattle.text_lines.specs.Feeds.{Came}
use Rattle.bone_desk.specs.Told.{AtEnd}
use Rattle.cnf_core.specs.Formulas.{Cnf}
use Rattle.lrat_lines.specs.declared.line.Line.{Line}
use Rattle.lrat_checker.specs.Checking.{Kept}
use Rattle.text_lines.specs.Readings.{FaultAt}
use Rattle.witness_text.specs.Reading.{Witnessed}
use Rattle.witness_text.specs.Texts.{witness_reading}
use Rattle.bone_check.specs.declared.verdict.Reason.{Reason}
use Rattle.bone_check.specs.declared.verdict.Verdict.{Verdict}
use Rattle.bone_check.specs.declared.verdict.Verdict.TheVariants.{NotVerified}
use Rattle.bone_check.specs.declared.evidence.Evidence.{Evidence}
use Rattle.bone_check.specs.Verdicts.{proof_reading}
use Rattle.bone_check.specs.ProofFeed.{IsLeft, IsTaken, IsUntaken}
use Rattle.bone_check.specs.Checks.{Texts, AllCame, EndsAtFeed, is_read, limit_of, IsVerdict}
use Rattle.bone_check.specs.Steps.Parts.{texts_of}
use Rattle.bone_check.specs.Steps.Evidence.{IsEvidenceOf, reading_told}

pub came_none : (f : Feed) (t : Told) → Came f t t []
came_none f t = record { took = took_none f t; only = reads_none f t }

-- what was taken of a feed stays so, where what it has left does
took_on : (f : Feed) (bytes : List ℕ) (a b c : Told) → Took f bytes a b → c.left f ≡ b.left f → Took f bytes a c
took_on f bytes a b c took same = subst (λ (o : Option (List ℕ)). a.left f ≡ option_map (λ rest. bytes ++ rest) o) (sym same) took

took_later : (f : Feed) (bytes : List ℕ) (a b c : Told) → b.left f ≡ a.left f → Took f bytes b c → Took f bytes a c
took_later f bytes a b c same took = sym same ∙ took

-- ---- no feed behind the one that was read last

later_feed : (f g : Feed) → feed_index f < feed_index g → g ≢ f
later_feed f g later same = let places = ap feed_index same in absurd (omega (arith, later, places))

later_read : (f g : Feed) → feed_index f < feed_index g → Read g ≢ Read f
later_read f g later same = later_feed f g later (same_feed same)
  where
    same_feed : Read g ≡ Read f → g ≡ f
    same_feed is = cc

pub ends_at_read : (f : Feed) (old new : Told) → ReadsOnly f old new → EndsAtFeed f old new
ends_at_read f old new only = record {
  left = λ g later. only.left g (later_feed f g later);
  counts = λ g later. only.counts.others (Read g) (later_read f g later);
}

-- a feed before it was read first
pub ends_after_read : (e f : Feed) (old mid new : Told) → feed_index e ≤ feed_index f → ReadsOnly e old mid → EndsAtFeed f mid new
    → EndsAtFeed f old new
ends_after_read e f old mid new order only ends = record {
  left = λ g later. ends.left g later ∙ only.left g (later_feed e g (omega (arith, order, later)));
  counts = λ g later. ends.counts g later ∙ only.counts.others (Read g) (later_read e g (omega (arith, order, later)));
}

-- ---- all three together

-- nothing came of a feed, and its count stands
pub record IsUntouched (c d : Told) (text : List ℕ) : Type 0 where
  pub none : text ≡ []
  pub same : d ≡ c

pub untouched : (t : Told) → IsUntouched t t []
untouched t = record { none = refl; same = refl }

-- the count of an act that reads none of the feeds stands behind the witness
witness_counts : (asked : Bool) (c d : Told) (witness : List ℕ) (act : Act) → Came feed.Witness c d witness
    → (asked ≡ false → IsUntouched c d witness) → ((f : Feed) → IsTrue (is_read asked f) → act ≡ Read f → ⊥)
    → d.faults act ≡ c.faults act
witness_counts true c d witness act third unasked apart = third.only.counts.others act (λ is. apart feed.Witness refl is)
witness_counts false c d witness act third unasked apart = ap (λ (t : Told). t.faults act) (unasked refl).same

pub all_came : (asked : Bool) (a b c d : Told) (answer proof witness : List ℕ) → Came feed.Answer a b answer → Came feed.Proof b c proof
    → Came feed.Witness c d witness → (asked ≡ false → IsUntouched c d witness) → AllCame asked a d (texts_of answer proof witness)
all_came asked a b c d answer proof witness first second third unasked = record {
  took = took;
  unread = unread;
  put = λ p. third.only.put p ∙ second.only.put p ∙ first.only.put p;
  others = λ act no.
      witness_counts asked c d witness act third unasked no ∙ second.only.counts.others act (λ is. no feed.Proof refl is)
      ∙ first.only.counts.others act (λ is. no feed.Answer refl is);
  never_falls = λ act.
      let one = counts_never_fall first.only.counts act in
      let two = counts_never_fall second.only.counts act in
      let three = counts_never_fall third.only.counts act in
      omega (arith, one, two, three);
}
  where
    unread : (f : Feed) → IsFalse (is_read asked f) → texts_of answer proof witness f ≡ []
    unread feed.Text isnt = refl
    unread feed.Answer isnt = absurd (true≢false isnt)
    unread feed.Proof isnt = absurd (true≢false isnt)
    unread feed.Witness isnt = (unasked isnt).none

    took : (f : Feed) → Took f (texts_of answer proof witness f) a d
    took feed.Text =
        took_on feed.Text [] a a d (took_none feed.Text a)
        (third.only.left feed.Text (λ e. cc e) ∙ second.only.left feed.Text (λ e. cc e) ∙ first.only.left feed.Text (λ e. cc e))
    took feed.Answer =
        took_on feed.Answer answer a b d first.took
        (third.only.left feed.Answer (λ e. cc e) ∙ second.only.left feed.Answer (λ e. cc e))
    took feed.Proof =
        took_later feed.Proof proof a b d (first.only.left feed.Proof (λ e. cc e))
        (took_on feed.Proof proof b c d second.took (third.only.left feed.Proof (λ e. cc e)))
    took feed.Witness =
        took_later feed.Witness witness a c d
        (second.only.left feed.Witness (λ e. cc e) ∙ first.only.left feed.Witness (λ e. cc e)) third.took

-- no more came than is read
pub all_within : (answer proof witness : List ℕ) → length answer ≤ 2 ^ 27 → length proof ≤ 2 ^ 45 → length witness ≤ 2 ^ 45 → (f : Feed)
    → length (texts_of answer proof witness f) ≤ limit_of f
all_within answer proof witness first second third feed.Text = omega arith
all_within answer proof witness first second third feed.Answer = first
all_within answer proof witness first second third feed.Proof = second
all_within answer proof witness first second third feed.Witness = third

-- the verdict on two texts, by what they mean
abbrev pub Judge : Type 0
Judge = Result (List Line) (FaultAt Reason) → Result Witnessed (FaultAt (Unit {0})) → Verdict

abbrev pub judged_on : Cnf → Bool → Judge → Texts → Verdict
judged_on F witness judge texts =
    judge (proof_reading F (texts feed.Proof)) (witness_reading F.vars (if witness then texts feed.Witness else []))

-- what is left of a feed that is at its end
pub at_end : (f : Feed) (t : Told) (came rest : List ℕ) → AtEnd f t → IsLeft f t rest → came ++ rest ≡ came
at_end f t came rest ended left =
    let none : rest ≡ [] = rw left at ended in ap (λ (r : List ℕ). came ++ r) none ∙ append-nil came

-- a line of the proof fails
pub fails_in_proof : (F : Cnf) (witness : Bool) (judge : Judge) (now : Told) (proof : List ℕ) (reason : Reason) (line : ℕ)
    → ((e : FaultAt Reason) (w : Result Witnessed (FaultAt (Unit {0}))) → judge (Err e) w ≡ NotVerified e.fault e.line)
    → IsUntaken F now proof reason line
    → IsVerdict now (texts_of [] proof []) (judged_on F witness judge) (NotVerified reason line)
fails_in_proof F witness judge now proof reason line decides untaken = record {
  within = all_within [] proof [] (omega arith) untaken.within (omega arith);
  whole = λ rest left.
      ap (λ (r : Result (List Line) (FaultAt Reason)). judge r (witness_reading F.vars (if witness then [] ++ rest feed.Witness else [])))
      (untaken.reading (rest feed.Proof) (left feed.Proof))
      ∙ decides (record { line = line; fault = reason }) _;
}

-- the proof is taken, and the verdict doesn't hang on the witness
pub decided_by_proof : (F : Cnf) (witness : Bool) (judge : Judge) (now : Told) (proof : List ℕ) (kept : Kept) (verdict : Verdict)
    → (taken : IsTaken F now proof kept) → ((w : Result Witnessed (FaultAt (Unit {0}))) → judge (Ok taken.lines) w ≡ verdict)
    → IsVerdict now (texts_of [] proof []) (judged_on F witness judge) verdict
decided_by_proof F witness judge now proof kept verdict taken decides = record {
  within = all_within [] proof [] (omega arith) taken.within (omega arith);
  whole = λ rest left.
      ap (λ (r : Result (List Line) (FaultAt Reason)). judge r (witness_reading F.vars (if witness then [] ++ rest feed.Witness else [])))
      (ap (proof_reading F) (at_end feed.Proof now proof (rest feed.Proof) taken.whole (left feed.Proof)) ∙ taken.reading)
      ∙ decides _;
}

-- what a witness means that is asked for, or not
asked : (n : ℕ) (witness : Bool) (now : Told) (came rest : List ℕ) (evidence : Evidence) → IsEvidenceOf n witness now came evidence
    → (witness ≡ false → came ≡ []) → IsLeft feed.Witness now rest → witness_reading n (if witness then came ++ rest else []) ≡ reading_told n evidence
asked n true now came rest evidence is unasked left =
    ap (witness_reading n) (at_end feed.Witness now came rest (is.whole refl).whole left) ∙ is.reading
asked n false now came rest evidence is unasked left = ap (witness_reading n) (sym (unasked refl)) ∙ is.reading

evidence_within : (n : ℕ) (witness : Bool) (now : Told) (came : List ℕ) (evidence : Evidence) → IsEvidenceOf n witness now came evidence
    → (witness ≡ false → came ≡ []) → length came ≤ 2 ^ 45
evidence_within n true now came evidence is unasked = (is.whole refl).within
evidence_within n false now came evidence is unasked = let none = ap (λ (t : List ℕ). length t) (unasked refl) in omega arith

-- both were read
pub decided_by_both : (F : Cnf) (witness : Bool) (judge : Judge) (mid now : Told) (proof text : List ℕ) (kept : Kept) (evidence : Evidence)
    (verdict : Verdict) → (taken : IsTaken F mid proof kept) → Came feed.Witness mid now text → IsEvidenceOf F.vars witness now text evidence
    → (witness ≡ false → text ≡ []) → judge (Ok taken.lines) (reading_told F.vars evidence) ≡ verdict
    → IsVerdict now (texts_of [] proof text) (judged_on F witness judge) verdict
decided_by_both F witness judge mid now proof text kept evidence verdict taken came is unasked decides = record {
  within = all_within [] proof text (omega arith) taken.within (evidence_within F.vars witness now text evidence is unasked);
  whole = λ rest left.
      let same : mid.left feed.Proof ≡ now.left feed.Proof = sym (came.only.left feed.Proof (λ e. cc e)) in
      let before : IsLeft feed.Proof mid (rest feed.Proof) = same ∙ left feed.Proof in
      ap (λ (r : Result (List Line) (FaultAt Reason)). judge r (witness_reading F.vars (if witness then text ++ rest feed.Witness else [])))
      (ap (proof_reading F) (at_end feed.Proof mid proof (rest feed.Proof) taken.whole before) ∙ taken.reading)
      ∙ ap (judge (Ok taken.lines)) (asked F.vars witness now text (rest feed.Witness) evidence is unasked (left feed.Witness))
      ∙ decides;
}
