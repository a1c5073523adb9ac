-- What came of the feeds with the answer, the proof and the witness, and what is said of them.
use Rattle.std.specs.Prelude.{◌≡◌, ℕ, ◌≤◌, ◌<◌, ◌^◌, Bool, true, false, if◌then◌else◌, IsTrue, IsFalse, List, [], ◌++◌, length, Some, Result, Ok, Err}
use Rattle.bone_desk.specs.Told.{Told, Took, Rose, feed_index}
use Rattle.bone_desk.specs.declared.desk.Act.{Act}
use Rattle.bone_desk.specs.declared.desk.Act.TheVariants.{Read}
use Rattle.bone_desk.specs.declared.desk.Feed.{Feed}
use Rattle.bone_desk.specs.declared.desk.Feed.TheVariants as feed
use Rattle.bone_desk.specs.declared.desk.Port.{Port}
use Rattle.cnf_core.specs.Formulas.{Cnf}
use Rattle.bone_check.specs.declared.verdict.Verdict.{Verdict}
use Rattle.bone_check.specs.declared.verdict.CheckEnd.{CheckEnd}
use Rattle.bone_check.specs.declared.verdict.CheckEnd.TheVariants.{Fault, TooLong, Memory}
use Rattle.bone_check.specs.Verdicts.{verdict_of}
use Rattle.bone_check.specs.ProofFeed.{IsLeft}

-- a text for each feed
abbrev pub Texts : Type 0
Texts = Feed → List ℕ

-- the most bytes that are read of a feed
abbrev pub limit_of : Feed → ℕ
limit_of feed.Text = 0
limit_of feed.Answer = 2 ^ 27
limit_of feed.Proof = 2 ^ 45
limit_of feed.Witness = 2 ^ 45

-- which feeds are read: that of the witness where it is asked for
abbrev pub is_read : Bool → Feed → Bool
is_read witness feed.Text = false
is_read witness feed.Answer = true
is_read witness feed.Proof = true
is_read witness feed.Witness = witness

-- these bytes came of the feeds that are read, nothing was written, and no count changed but those of their reads
pub record AllCame (witness : Bool) (old new : Told) (came : Texts) : Type 0 where
  pub took : (f : Feed) → Took f (came f) old new
  pub unread : (f : Feed) → IsFalse (is_read witness f) → came f ≡ []
  pub put : (p : Port) → new.put p ≡ old.put p
  pub others : (a : Act) → ((f : Feed) → IsTrue (is_read witness f) → a ≡ Read f → ⊥) → new.faults a ≡ old.faults a
  pub never_falls : (a : Act) → old.faults a ≤ new.faults a

-- what the desk tells to be left of each feed
abbrev pub AllLeft : Told → Texts → Type 0
AllLeft told rest = (f : Feed) → IsLeft f told (rest f)

-- the verdict on the whole texts: what came, with what is left behind it. No more came than is read
pub record IsVerdict (new : Told) (came : Texts) (means : Texts → Verdict) (verdict : Verdict) : Type 0 where
  pub within : (f : Feed) → length (came f) ≤ limit_of f
  pub whole : (rest : Texts) → AllLeft new rest → means (λ f. came f ++ rest f) ≡ verdict

-- no feed behind this one was read
pub record EndsAtFeed (f : Feed) (old new : Told) : Type 0 where
  pub left : (g : Feed) → feed_index f < feed_index g → new.left g ≡ old.left g
  pub counts : (g : Feed) → feed_index f < feed_index g → new.faults (Read g) ≡ old.faults (Read g)

-- what each answer says of what came
abbrev pub Says : Bool → Told → Told → Texts → (Texts → Verdict) → Result Verdict CheckEnd → Type 0
Says witness old new came means (Ok verdict) = IsVerdict new came means verdict
Says witness old new came means (Err (Fault f)) = IsTrue (is_read witness f) × Rose (Read f) old new × EndsAtFeed f old new
Says witness old new came means (Err (TooLong f)) = (limit_of f < length (came f)) × EndsAtFeed f old new
Says witness old new came means (Err Memory) = Unit {0}

pub record ChecksBy (witness : Bool) (old new : Told) (means : Texts → Verdict) (result : Result Verdict CheckEnd) : Type 0 where
  pub came : Texts
  pub all : AllCame witness old new came
  pub says : Says witness old new came means result

-- the verdict on the texts, of which that of the witness counts as empty where it isn't asked for
abbrev pub verdict_on : Cnf → Bool → Texts → Verdict
verdict_on F witness texts = verdict_of F (texts feed.Answer) (texts feed.Proof) (if witness then texts feed.Witness else [])

abbrev pub ChecksAll : Cnf → Bool → Told → Told → Result Verdict CheckEnd → Type 0
ChecksAll F witness old new result = ChecksBy witness old new (verdict_on F witness) result
