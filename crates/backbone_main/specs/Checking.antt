-- What `check` does, by how it ends, and which statuses a cause leaves.
use Rattle.std.specs.Prelude.{◌≡◌, ◌≢◌, ◌<◌, ◌≤◌, ℕ, Bool, List, [], ◌∷◌, ◌++◌, false, true, length, is_some, IsTrue, Some, Ok, Err}
use Rattle.bone_desk.specs.declared.desk.Feed.{Feed}
use Rattle.bone_desk.specs.declared.desk.Feed.TheVariants as feed
use Rattle.bone_desk.specs.declared.desk.Port.TheVariants as port
use Rattle.bone_desk.specs.declared.desk.Act.{Act}
use Rattle.bone_desk.specs.declared.desk.Act.TheVariants.{OpenFeed, OpenPort, Read, Write}
use Rattle.bone_desk.specs.Told.{Told, Rose, Took, Gave}
use Rattle.bone_desk.specs.Gives.{GaveFront}
use Rattle.cnf_core.specs.Formulas.{Cnf}
use Rattle.dimacs_reader.specs.declared.fault.Fault.{Fault}
use Rattle.dimacs_reader.specs.Feeds.{IsTooLong}
use Rattle.answer_text.specs.AnswerText.{answer_text}
use Rattle.bone_words.specs.Settings.{Checking}
use Rattle.bone_check.specs.declared.verdict.Verdict.{Verdict}
use Rattle.bone_check.specs.declared.verdict.Verdict.TheVariants.{Verified}
use Rattle.bone_check.specs.Checks as feeds
use Rattle.bone_check.specs.Checks.{AllLeft, IsVerdict, limit_of, verdict_on}
use Rattle.backbone_main.specs.declared.ending.Ending.{Ending}
use Rattle.backbone_main.specs.declared.ending.Ending.TheVariants.{Judged, OutOfMemory, BadText, TooLong, Failed}
use Rattle.backbone_main.specs.Causes.{Acts, AllOpens, EndsAt, FailsToOpen, FailsToRead, FindsTooLong, IsFaultless, IsGiven, IsOneOf, IsTaken, Means, ReadsAndWrites, RefusesText, WritesNothing}
use Rattle.backbone_main.specs.Verdicts.{verdict_text, verdict_code}

-- whether the witness is named
abbrev pub names_witness : Checking → Bool
names_witness c = is_some c.witness

-- text, answer and proof are opened and read, and the witness where it is named; the answer's port gets the verdict, and
-- the notes are written
abbrev pub check_uses : Checking → Acts
check_uses c (OpenFeed feed.Witness) = names_witness c
check_uses c (OpenFeed f) = true
check_uses c (OpenPort p) = false
check_uses c (Read feed.Witness) = names_witness c
check_uses c (Read f) = true
check_uses c (Write port.Answer) = true
check_uses c (Write port.Notes) = true
check_uses c (Write p) = false

-- ---- the verdict

-- this came of the feeds behind the text
abbrev pub AllTook : feeds.Texts → Told → Told → Type 0
AllTook came old new = (f : Feed) → f ≢ feed.Text → Took f (came f) old new

-- the verdict on the whole texts is this one, where the desk tells what it leaves of them; a verified answer is the formula's
pub record Judges (c : Checking) (verdict : Verdict) (F : Cnf) (old new : Told) : Type 0 where
  pub came : feeds.Texts
  pub took : AllTook came old new
  pub is : IsVerdict new came (verdict_on F (names_witness c)) verdict
  pub right : verdict ≡ Verified → (rest : feeds.Texts) → AllLeft new rest
      → came feed.Answer ++ rest feed.Answer ≡ answer_text F

-- and it was written
pub record Tells (c : Checking) (verdict : Verdict) (F : Cnf) (old new : Told) : Type 0 where
  pub judges : Judges c verdict F old new
  pub gave : Gave port.Answer (verdict_text verdict) old new

-- or a front of it, since a write failed
pub record StopsTelling (c : Checking) (F : Cnf) (old new : Told) : Type 0 where
  pub verdict : Verdict
  pub judges : Judges c verdict F old new
  pub front : GaveFront port.Answer (verdict_text verdict) old new
  pub rose : Rose (Write port.Answer) old new

-- ---- no verdict

-- too many bytes of a feed came; no feed behind it was read, and nothing was written
pub record FindsFeedTooLong (f : Feed) (F : Cnf) (old new : Told) : Type 0 where
  pub bytes : List ℕ
  pub took : Took f bytes old new
  pub long : limit_of f < length bytes
  pub behind : EndsAt (Read f) old new

-- a read of a feed failed; the same
pub record FailsToReadFeed (f : Feed) (F : Cnf) (old new : Told) : Type 0 where
  pub rose : Rose (Read f) old new
  pub behind : EndsAt (Read f) old new

-- the text is refused by itself, the other feeds behind a text that means a formula
abbrev pub RefusesLong : Feed → Told → Told → Type 0
RefusesLong feed.Text old new = FindsTooLong old new
RefusesLong f old new = ReadsAndWrites (FindsFeedTooLong f) old new

abbrev pub RefusesRead : Feed → Told → Told → Type 0
RefusesRead feed.Text old new = FailsToRead old new
RefusesRead f old new = ReadsAndWrites (FailsToReadFeed f) old new

-- ---- the account

-- an act failed
abbrev pub FailsChecking : Checking → Act → Told → Told → Type 0
FailsChecking c (OpenFeed f) old new = FailsToOpen (OpenFeed f) old new
FailsChecking c (Read f) old new = RefusesRead f old new
FailsChecking c (Write port.Answer) old new = ReadsAndWrites (StopsTelling c) old new
FailsChecking c act old new = ⊥

-- what was done, by the ending
abbrev pub CheckAccounts : Checking → Ending → Told → Told → Type 0
CheckAccounts c (Judged verdict) old new = ReadsAndWrites (Tells c verdict) old new
CheckAccounts c OutOfMemory old new = WritesNothing old new
CheckAccounts c (BadText fault) old new = RefusesText fault old new
CheckAccounts c (TooLong f) old new = RefusesLong f old new
CheckAccounts c (Failed act) old new = FailsChecking c act old new
CheckAccounts c ending old new = ⊥

-- ---- which statuses a cause leaves; want of memory is always left

-- the desk tells that these texts are to be read; all opens that is wanted, no read fails, and none is too long
pub record AreGiven (c : Checking) (texts : feeds.Texts) (old new : Told) : Type 0 where
  pub left : (f : Feed) → old.left f ≡ Some (texts f)
  pub opens : AllOpens (check_uses c) old new
  pub reads : (f : Feed) → IsTrue (check_uses c (Read f)) → IsFaultless (Read f) old new
  pub within : (f : Feed) → f ≢ feed.Text → IsTrue (check_uses c (Read f)) → length (texts f) ≤ limit_of f

pub record Checks (c : Checking) (number : ℕ) (old new : Told) : Type 0 where
  pub long : (text : List ℕ) → IsGiven (check_uses c) text old new → IsTooLong text → IsOneOf number (51 ∷ 40 ∷ [])
  pub bad : (text : List ℕ) (fault : Fault) → IsGiven (check_uses c) text old new → Means text (Err fault)
      → IsOneOf number (50 ∷ 40 ∷ [])
  pub judged : (texts : feeds.Texts) (F : Cnf) → AreGiven c texts old new → Means (texts feed.Text) (Ok F)
      → IsTaken (check_uses c) old new → IsOneOf number (verdict_code (verdict_on F (names_witness c) texts) ∷ 40 ∷ [])
