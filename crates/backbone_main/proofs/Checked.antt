-- A check past its note, and which statuses its causes leave.
use Rattle.std.proofs.Common.{◌≡◌, ◌≢◌, ℕ, ◌++◌, Bool, if◌then◌else◌, List, [], ◌∷◌, refl, sym, ap, ◌∙◌, arith}
use Rattle.std.specs.Prelude.{Option, Some, None, Ok, Err, IsTrue, option_map, unwrap_or}
use Rattle.bone_desk.specs.declared.desk.Feed.{Feed}
use Rattle.bone_desk.specs.declared.desk.Feed.TheVariants as feed
use Rattle.bone_desk.specs.declared.desk.Port.TheVariants as port
use Rattle.bone_desk.specs.declared.desk.Act.{Act}
use Rattle.bone_desk.specs.declared.desk.Act.TheVariants.{OpenFeed, Read, Write}
use Rattle.bone_desk.specs.Told.{Told, WritesOnly}
use Rattle.cnf_core.specs.Formulas.{Cnf}
use Rattle.dimacs_reader.specs.declared.fault.Fault.{Fault}
use Rattle.dimacs_reader.specs.Feeds.{IsTooLong}
use Rattle.bone_words.specs.Settings.{Checking}
use Rattle.bone_check.specs.declared.verdict.Verdict.{Verdict}
use Rattle.bone_check.specs.Verdicts.{verdict_of}
use Rattle.bone_check.specs.Checks as feeds
use Rattle.bone_check.specs.Checks.{AllLeft, verdict_on}
use Rattle.backbone_main.specs.declared.ending.Ending.{Ending}
use Rattle.backbone_main.specs.declared.ending.Ending.TheVariants.{Judged, OutOfMemory, BadText, TooLong, Failed}
use Rattle.backbone_main.specs.Causes.{IsGiven, IsOneOf, IsTaken, Means, ReadsAndWrites, ReadsText}
use Rattle.backbone_main.specs.Verdicts.{verdict_code, verdict_text}
use Rattle.backbone_main.specs.Endings.{IsItsOwn, IsOwnAct, code_of}
use Rattle.backbone_main.specs.Checking.{AreGiven, CheckAccounts, Checks, FailsChecking, FailsToReadFeed, FindsFeedTooLong, Judges, RefusesLong, RefusesRead, check_uses, names_witness}
use Rattle.backbone_main.proofs.Given.{MeansFormula, at_code, both_mean, given_too_long, long_means, meant, means_formula, never_rose, no_longer, same_meaning}
use Rattle.backbone_main.proofs.Onward.{ends_onward, front_onward, gave_onward, long_onward, read_onward, refused_onward, rose_onward, silent_onward, took_onward, unopened_onward, unread_onward}

-- ---- past the note

judges_onward : (c : Checking) (verdict : Verdict) (F : Cnf) (a b d : Told) → Judges c verdict F a b → WritesOnly port.Notes b d
    → Judges c verdict F a d
judges_onward c verdict F a b d is only = record {
  came = is.came;
  took = λ f other. took_onward f (is.came f) a b d (is.took f other) only;
  is = record { within = is.is.within; whole = λ rest left. is.is.whole rest (λ f. sym (only.left f) ∙ left f) };
  right = λ verified rest left. is.right verified rest (λ f. sym (only.left f) ∙ left f);
}

long_feed_onward : (f : Feed) (a b d : Told) → ReadsAndWrites (FindsFeedTooLong f) a b → WritesOnly port.Notes b d
    → ReadsAndWrites (FindsFeedTooLong f) a d
long_feed_onward f a b d is only = record {
  formula = is.formula;
  read = read_onward a b d is.read (only.left feed.Text);
  wrote = record {
    bytes = is.wrote.bytes;
    took = took_onward f is.wrote.bytes a b d is.wrote.took only;
    long = is.wrote.long;
    behind = ends_onward (Read f) a b d is.wrote.behind only;
  };
}

unread_feed_onward : (f : Feed) (a b d : Told) → ReadsAndWrites (FailsToReadFeed f) a b → WritesOnly port.Notes b d
    → ReadsAndWrites (FailsToReadFeed f) a d
unread_feed_onward f a b d is only = record {
  formula = is.formula;
  read = read_onward a b d is.read (only.left feed.Text);
  wrote = record {
    rose = rose_onward (Read f) a b d is.wrote.rose (λ e. absurd (cc)) only;
    behind = ends_onward (Read f) a b d is.wrote.behind only;
  };
}

refuses_long_onward : (f : Feed) (a b d : Told) → RefusesLong f a b → WritesOnly port.Notes b d → RefusesLong f a d
refuses_long_onward feed.Text a b d is only = long_onward a b d is only
refuses_long_onward feed.Answer a b d is only = long_feed_onward feed.Answer a b d is only
refuses_long_onward feed.Proof a b d is only = long_feed_onward feed.Proof a b d is only
refuses_long_onward feed.Witness a b d is only = long_feed_onward feed.Witness a b d is only

refuses_read_onward : (f : Feed) (a b d : Told) → RefusesRead f a b → WritesOnly port.Notes b d → RefusesRead f a d
refuses_read_onward feed.Text a b d is only = unread_onward a b d is only
refuses_read_onward feed.Answer a b d is only = unread_feed_onward feed.Answer a b d is only
refuses_read_onward feed.Proof a b d is only = unread_feed_onward feed.Proof a b d is only
refuses_read_onward feed.Witness a b d is only = unread_feed_onward feed.Witness a b d is only

fails_checking_onward : (c : Checking) (act : Act) (a b d : Told) → FailsChecking c act a b → WritesOnly port.Notes b d
    → FailsChecking c act a d
fails_checking_onward c (OpenFeed f) a b d is only = unopened_onward (OpenFeed f) a b d (λ e. absurd (cc)) is only
fails_checking_onward c (Read f) a b d is only = refuses_read_onward f a b d is only
fails_checking_onward c (Write port.Answer) a b d is only = record {
  formula = is.formula;
  read = read_onward a b d is.read (only.left feed.Text);
  wrote = record {
    verdict = is.wrote.verdict;
    judges = judges_onward c is.wrote.verdict is.formula a b d is.wrote.judges only;
    front = front_onward port.Answer (verdict_text is.wrote.verdict) a b d (λ e. absurd (cc)) is.wrote.front only;
    rose = rose_onward (Write port.Answer) a b d is.wrote.rose (λ e. absurd (cc)) only;
  };
}
fails_checking_onward c act a b d is only = absurd is

pub check_onward : (c : Checking) (ending : Ending) (a b d : Told) → CheckAccounts c ending a b → WritesOnly port.Notes b d
    → CheckAccounts c ending a d
check_onward c (Judged verdict) a b d is only = record {
  formula = is.formula;
  read = read_onward a b d is.read (only.left feed.Text);
  wrote = record {
    judges = judges_onward c verdict is.formula a b d is.wrote.judges only;
    gave = gave_onward port.Answer (verdict_text verdict) a b d (λ e. absurd (cc)) is.wrote.gave only;
  };
}
check_onward c OutOfMemory a b d is only = silent_onward a b d is only
check_onward c (BadText fault) a b d is only = refused_onward fault a b d is only
check_onward c (TooLong f) a b d is only = refuses_long_onward f a b d is only
check_onward c (Failed act) a b d is only = fails_checking_onward c act a b d is only
check_onward c ending a b d is only = absurd is

-- ---- a text that is given

-- what each ending says of it, where all opened and no read of it failed
abbrev ReadCause : List ℕ → Feed → Type 0
ReadCause text feed.Text = ⊥
ReadCause text f = MeansFormula text

abbrev LongCause : List ℕ → Feed → Type 0
LongCause text feed.Text = IsTooLong text
LongCause text f = MeansFormula text

abbrev FailureCause : List ℕ → Act → Type 0
FailureCause text (Read f) = ReadCause text f
FailureCause text (Write port.Answer) = MeansFormula text
FailureCause text act = ⊥

abbrev Cause : List ℕ → Ending → Type 0
Cause text (Judged verdict) = MeansFormula text
Cause text OutOfMemory = Unit {0}
Cause text (BadText fault) = Means text (Err fault)
Cause text (TooLong f) = LongCause text f
Cause text (Failed act) = FailureCause text act
Cause text ending = ⊥

caused_failure : (c : Checking) (act : Act) (old new : Told) (text : List ℕ) → FailsChecking c act old new → IsOwnAct (check_uses c) act
    → IsGiven (check_uses c) text old new → FailureCause text act
caused_failure c (OpenFeed f) old new text is own given = never_rose (OpenFeed f) old new (given.opens.feeds f own.used) is.rose
caused_failure c (Read feed.Text) old new text is own given = never_rose (Read feed.Text) old new given.reads is.fault.rose
caused_failure c (Read feed.Answer) old new text is own given = means_formula text is.formula old new given.left is.read
caused_failure c (Read feed.Proof) old new text is own given = means_formula text is.formula old new given.left is.read
caused_failure c (Read feed.Witness) old new text is own given = means_formula text is.formula old new given.left is.read
caused_failure c (Write port.Answer) old new text is own given = means_formula text is.formula old new given.left is.read
caused_failure c act old new text is own given = absurd is

caused : (c : Checking) (ending : Ending) (old new : Told) (text : List ℕ) → CheckAccounts c ending old new
    → IsItsOwn (check_uses c) ending → IsGiven (check_uses c) text old new → Cause text ending
caused c (Judged verdict) old new text is own given = means_formula text is.formula old new given.left is.read
caused c OutOfMemory old new text is own given = tt
caused c (BadText fault) old new text is own given = meant text old new given.left is.read
caused c (TooLong feed.Text) old new text is own given = given_too_long text old new given.left is
caused c (TooLong feed.Answer) old new text is own given = means_formula text is.formula old new given.left is.read
caused c (TooLong feed.Proof) old new text is own given = means_formula text is.formula old new given.left is.read
caused c (TooLong feed.Witness) old new text is own given = means_formula text is.formula old new given.left is.read
caused c (Failed act) old new text is own given = caused_failure c act old new text is own given
caused c ending old new text is own given = absurd is

long_formula : (text : List ℕ) → IsTooLong text → MeansFormula text → ⊥
long_formula text long is = long_means text (Ok is.formula) long is.means

long_code : (ending : Ending) (text : List ℕ) → Cause text ending → IsTooLong text → IsOneOf (code_of ending) (51 ∷ 40 ∷ [])
long_code (Judged verdict) text is long = absurd (long_formula text long is)
long_code OutOfMemory text is long = (1, omega arith, refl)
long_code (BadText fault) text is long = absurd (long_means text (Err fault) long is)
long_code (TooLong f) text is long = (0, omega arith, refl)
long_code (Failed (Read feed.Answer)) text is long = absurd (long_formula text long is)
long_code (Failed (Read feed.Proof)) text is long = absurd (long_formula text long is)
long_code (Failed (Read feed.Witness)) text is long = absurd (long_formula text long is)
long_code (Failed (Write port.Answer)) text is long = absurd (long_formula text long is)
long_code ending text is long = absurd is

bad_formula : (text : List ℕ) (fault : Fault) → Means text (Err fault) → MeansFormula text → ⊥
bad_formula text fault bad is = both_mean text is.formula fault is.means bad

bad_code : (ending : Ending) (text : List ℕ) (fault : Fault) → Cause text ending → Means text (Err fault)
    → IsOneOf (code_of ending) (50 ∷ 40 ∷ [])
bad_code (Judged verdict) text fault is bad = absurd (bad_formula text fault bad is)
bad_code OutOfMemory text fault is bad = (1, omega arith, refl)
bad_code (BadText other) text fault is bad = (0, omega arith, refl)
bad_code (TooLong feed.Text) text fault is bad = absurd (long_means text (Err fault) is bad)
bad_code (TooLong feed.Answer) text fault is bad = absurd (bad_formula text fault bad is)
bad_code (TooLong feed.Proof) text fault is bad = absurd (bad_formula text fault bad is)
bad_code (TooLong feed.Witness) text fault is bad = absurd (bad_formula text fault bad is)
bad_code (Failed (Read feed.Answer)) text fault is bad = absurd (bad_formula text fault bad is)
bad_code (Failed (Read feed.Proof)) text fault is bad = absurd (bad_formula text fault bad is)
bad_code (Failed (Read feed.Witness)) text fault is bad = absurd (bad_formula text fault bad is)
bad_code (Failed (Write port.Answer)) text fault is bad = absurd (bad_formula text fault bad is)
bad_code ending text fault is bad = absurd is

-- ---- all texts are given

-- what is left of a feed of which this was taken
abbrev rest_of : Told → feeds.Texts
rest_of told f = unwrap_or (told.left f) []

left_behind : (given came : List ℕ) (left after : Option (List ℕ)) → left ≡ Some given → left ≡ option_map (λ rest. came ++ rest) after
    → (after ≡ Some (unwrap_or after [])) × (given ≡ came ++ unwrap_or after [])
left_behind given came left None is took = absurd (cc)
left_behind given came left (Some rest) is took = (refl, cc)

all_left : (c : Checking) (texts : feeds.Texts) (F : Cnf) (verdict : Verdict) (old new : Told) → AreGiven c texts old new
    → ReadsText (Ok F) old new → (judges : Judges c verdict F old new) → AllLeft new (rest_of new)
all_left c texts F verdict old new given read judges feed.Text =
    (left_behind (texts feed.Text) read.text (old.left feed.Text) (new.left feed.Text) (given.left feed.Text) read.took).0
all_left c texts F verdict old new given read judges feed.Answer =
    (left_behind (texts feed.Answer) (judges.came feed.Answer) (old.left feed.Answer) (new.left feed.Answer) (given.left feed.Answer)
    (judges.took feed.Answer (λ e. absurd (cc)))).0
all_left c texts F verdict old new given read judges feed.Proof =
    (left_behind (texts feed.Proof) (judges.came feed.Proof) (old.left feed.Proof) (new.left feed.Proof) (given.left feed.Proof)
    (judges.took feed.Proof (λ e. absurd (cc)))).0
all_left c texts F verdict old new given read judges feed.Witness =
    (left_behind (texts feed.Witness) (judges.came feed.Witness) (old.left feed.Witness) (new.left feed.Witness) (given.left feed.Witness)
    (judges.took feed.Witness (λ e. absurd (cc)))).0

-- the whole text is what came, and what is left
whole_text : (c : Checking) (texts : feeds.Texts) (F : Cnf) (verdict : Verdict) (old new : Told) (f : Feed) → f ≢ feed.Text
    → AreGiven c texts old new → (judges : Judges c verdict F old new) → judges.came f ++ rest_of new f ≡ texts f
whole_text c texts F verdict old new f other given judges =
    sym (left_behind (texts f) (judges.came f) (old.left f) (new.left f) (given.left f) (judges.took f other)).1

same_verdict : (F : Cnf) (witness : Bool) (texts others : feeds.Texts) → texts feed.Answer ≡ others feed.Answer
    → texts feed.Proof ≡ others feed.Proof → texts feed.Witness ≡ others feed.Witness → verdict_on F witness texts ≡ verdict_on F witness others
same_verdict F witness texts others answer proof evidence =
    ap (λ (t : List ℕ). verdict_of F t (texts feed.Proof) (if witness then texts feed.Witness else [])) answer
    ∙ ap (λ (t : List ℕ). verdict_of F (others feed.Answer) t (if witness then texts feed.Witness else [])) proof
    ∙ ap (λ (t : List ℕ). verdict_of F (others feed.Answer) (others feed.Proof) (if witness then t else [])) evidence

given_verdict : (c : Checking) (texts : feeds.Texts) (F : Cnf) (verdict : Verdict) (old new : Told) → AreGiven c texts old new
    → ReadsText (Ok F) old new → Judges c verdict F old new → verdict ≡ verdict_on F (names_witness c) texts
given_verdict c texts F verdict old new given read judges =
    sym (judges.is.whole (rest_of new) (all_left c texts F verdict old new given read judges))
    ∙ same_verdict F (names_witness c) (λ f. judges.came f ++ rest_of new f) texts
    (whole_text c texts F verdict old new feed.Answer (λ e. absurd (cc)) given judges)
    (whole_text c texts F verdict old new feed.Proof (λ e. absurd (cc)) given judges)
    (whole_text c texts F verdict old new feed.Witness (λ e. absurd (cc)) given judges)

-- no feed that is read is too long
never_long : (c : Checking) (texts : feeds.Texts) (f : Feed) (old new : Told) → f ≢ feed.Text → IsTrue (check_uses c (Read f))
    → AreGiven c texts old new → ReadsAndWrites (FindsFeedTooLong f) old new → ⊥
never_long c texts f old new other used given is =
    let most = no_longer (texts f) is.wrote.bytes (old.left f) (new.left f) (given.left f) is.wrote.took in
    let within = given.within f other used in
    absurd (omega (arith, most, within, is.wrote.long))

judged_code : (c : Checking) (texts : feeds.Texts) (F : Cnf) (ending : Ending) (old new : Told) → CheckAccounts c ending old new
    → IsItsOwn (check_uses c) ending → AreGiven c texts old new → Means (texts feed.Text) (Ok F) → IsTaken (check_uses c) old new
    → IsOneOf (code_of ending) (verdict_code (verdict_on F (names_witness c) texts) ∷ 40 ∷ [])
judged_code c texts F (Judged verdict) old new is own given means all =
    let found = meant (texts feed.Text) old new (given.left feed.Text) is.read in
    let formula = same_meaning (texts feed.Text) F is.formula means found in
    let same = given_verdict c texts is.formula verdict old new given is.read is.wrote.judges
    ∙ ap (λ (G : Cnf). verdict_on G (names_witness c) texts) formula in
    (0, omega arith, ap verdict_code (sym same))
judged_code c texts F OutOfMemory old new is own given means all = (1, omega arith, refl)
judged_code c texts F (BadText fault) old new is own given means all =
    absurd (both_mean (texts feed.Text) F fault means (meant (texts feed.Text) old new (given.left feed.Text) is.read))
judged_code c texts F (TooLong feed.Text) old new is own given means all =
    absurd (long_means (texts feed.Text) (Ok F) (given_too_long (texts feed.Text) old new (given.left feed.Text) is) means)
judged_code c texts F (TooLong feed.Answer) old new is own given means all =
    absurd (never_long c texts feed.Answer old new (λ e. absurd (cc)) own given is)
judged_code c texts F (TooLong feed.Proof) old new is own given means all =
    absurd (never_long c texts feed.Proof old new (λ e. absurd (cc)) own given is)
judged_code c texts F (TooLong feed.Witness) old new is own given means all =
    absurd (never_long c texts feed.Witness old new (λ e. absurd (cc)) own given is)
judged_code c texts F (Failed (OpenFeed f)) old new is own given means all =
    absurd (never_rose (OpenFeed f) old new (given.opens.feeds f own.used) is.rose)
judged_code c texts F (Failed (Read feed.Text)) old new is own given means all =
    absurd (never_rose (Read feed.Text) old new (given.reads feed.Text own.used) is.fault.rose)
judged_code c texts F (Failed (Read feed.Answer)) old new is own given means all =
    absurd (never_rose (Read feed.Answer) old new (given.reads feed.Answer own.used) is.wrote.rose)
judged_code c texts F (Failed (Read feed.Proof)) old new is own given means all =
    absurd (never_rose (Read feed.Proof) old new (given.reads feed.Proof own.used) is.wrote.rose)
judged_code c texts F (Failed (Read feed.Witness)) old new is own given means all =
    absurd (never_rose (Read feed.Witness) old new (given.reads feed.Witness own.used) is.wrote.rose)
judged_code c texts F (Failed (Write port.Answer)) old new is own given means all =
    absurd (never_rose (Write port.Answer) old new (all port.Answer (λ e. absurd (cc)) own.used) is.wrote.rose)
judged_code c texts F ending old new is own given means all = absurd is

-- ---- the same of the status

pub checks : (c : Checking) (ending : Ending) (number : ℕ) (old new : Told) → number ≡ code_of ending → CheckAccounts c ending old new
    → IsItsOwn (check_uses c) ending → Checks c number old new
checks c ending number old new is_code is own = record {
  long = λ text given too_long. at_code (51 ∷ 40 ∷ []) number ending is_code
      (long_code ending text (caused c ending old new text is own given) too_long);
  bad = λ text fault given means. at_code (50 ∷ 40 ∷ []) number ending is_code
      (bad_code ending text fault (caused c ending old new text is own given) means);
  judged = λ texts F given means all. at_code (verdict_code (verdict_on F (names_witness c) texts) ∷ 40 ∷ []) number ending is_code
      (judged_code c texts F ending old new is own given means all);
}
