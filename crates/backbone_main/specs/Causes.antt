-- What commands have in common: the acts that they may make, how a text is read or refused, and what is said of a desk
-- that doesn't fail.
use Rattle.std.specs.Prelude.{◌≡◌, ◌≢◌, ◌+◌, ◌-◌, ◌^◌, ◌<◌, ◌≤◌, ℕ, Bool, List, length, Contains, IsTrue, IsFalse, Some, Result, Ok, Err}
use Rattle.bone_desk.specs.declared.desk.Feed.{Feed}
use Rattle.bone_desk.specs.declared.desk.Feed.TheVariants as feed
use Rattle.bone_desk.specs.declared.desk.Port.{Port}
use Rattle.bone_desk.specs.declared.desk.Port.TheVariants as port
use Rattle.bone_desk.specs.declared.desk.Act.{Act}
use Rattle.bone_desk.specs.declared.desk.Act.TheVariants.{OpenFeed, OpenPort, Read, Write}
use Rattle.bone_desk.specs.Told.{Told, Rose, Took, feed_index, port_index}
use Rattle.cnf_core.specs.Formulas.{Cnf}
use Rattle.dimacs_reader.specs.declared.fault.Fault.{Fault}
use Rattle.dimacs_reader.specs.Reading.{reading_of}
use Rattle.dimacs_reader.specs.Feeds.{IsTooLong, IsReadFault, IsReadAs}

-- which acts a call may make
abbrev pub Acts : Type 0
Acts = Act → Bool

-- nothing changes but by acts that the call may make
pub record ChangesItsOwn (may : Acts) (old new : Told) : Type 0 where
  pub left : (f : Feed) → IsFalse (may (Read f)) → new.left f ≡ old.left f
  pub put : (p : Port) → IsFalse (may (Write p)) → new.put p ≡ old.put p
  pub counts : (a : Act) → IsFalse (may a) → new.faults a ≡ old.faults a
  pub never_falls : (a : Act) → old.faults a ≤ new.faults a

-- the order in which a call makes its acts. The writing of the note stands apart: it comes last
abbrev pub turn_of : Act → ℕ
turn_of (OpenFeed f) = 1 + feed_index f
turn_of (OpenPort p) = 5 + port_index p
turn_of (Read f) = 9 + feed_index f
turn_of (Write port.Proof) = 13
turn_of (Write port.Witness) = 14
turn_of (Write port.Answer) = 15
turn_of (Write port.Notes) = 0

-- no act was made behind this one, but for the note
pub record EndsAt (act : Act) (old new : Told) : Type 0 where
  pub counts : (a : Act) → turn_of act < turn_of a → new.faults a ≡ old.faults a
  pub left : (f : Feed) → turn_of act < turn_of (Read f) → new.left f ≡ old.left f
  pub put : (p : Port) → turn_of act < turn_of (Write p) → new.put p ≡ old.put p

-- no port was given a byte, but for the note
abbrev pub WritesNothing : Told → Told → Type 0
WritesNothing old new = (p : Port) → p ≢ port.Notes → new.put p ≡ old.put p

-- the whole text was read, and this is what it means
pub record ReadsText (given : Result Cnf Fault) (old new : Told) : Type 0 where
  pub text : List ℕ
  pub took : Took feed.Text text old new
  pub read : IsReadAs new text given

-- the whole text was read and means a formula, and this was written for it
pub record ReadsAndWrites (Writes : Cnf → Told → Told → Type 0) (old new : Told) : Type 0 where
  pub formula : Cnf
  pub read : ReadsText (Ok formula) old new
  pub wrote : Writes formula old new

-- ---- what happens where nothing is written

-- the whole text was read, and this is its first fault; nothing was done behind that
pub record RefusesText (fault : Fault) (old new : Told) : Type 0 where
  pub read : ReadsText (Err fault) old new
  pub behind : EndsAt (Read feed.Text) old new

-- too many bytes of the text came
pub record FindsTooLong (old new : Told) : Type 0 where
  pub text : List ℕ
  pub took : Took feed.Text text old new
  pub long : IsTooLong text
  pub behind : EndsAt (Read feed.Text) old new

-- a read of the text failed before too many bytes came
pub record FailsToRead (old new : Told) : Type 0 where
  pub text : List ℕ
  pub took : Took feed.Text text old new
  pub fault : IsReadFault old new text
  pub behind : EndsAt (Read feed.Text) old new

-- an opening failed; nothing was opened behind it, nor read or written
pub record FailsToOpen (act : Act) (old new : Told) : Type 0 where
  pub rose : Rose act old new
  pub behind : EndsAt act old new

-- ---- what is said of a desk and of a status

-- the act didn't fail: its count stayed, below its last value
pub record IsFaultless (act : Act) (old new : Told) : Type 0 where
  pub below : old.faults act < 2 ^ 64 - 1
  pub same : new.faults act ≡ old.faults act

-- all opens that is wanted
pub record AllOpens (may : Acts) (old new : Told) : Type 0 where
  pub feeds : (f : Feed) → IsTrue (may (OpenFeed f)) → IsFaultless (OpenFeed f) old new
  pub ports : (p : Port) → IsTrue (may (OpenPort p)) → IsFaultless (OpenPort p) old new

-- the desk tells that this text is to be read; all opens that is wanted, and no read of the text fails
pub record IsGiven (may : Acts) (text : List ℕ) (old new : Told) : Type 0 where
  pub left : old.left feed.Text ≡ Some text
  pub opens : AllOpens may old new
  pub reads : IsFaultless (Read feed.Text) old new

-- no write that is wanted fails, but maybe that of the note
abbrev pub IsTaken : Acts → Told → Told → Type 0
IsTaken may old new = (p : Port) → p ≢ port.Notes → IsTrue (may (Write p)) → IsFaultless (Write p) old new

-- the text isn't too long, and this is what it means
pub record Means (text : List ℕ) (given : Result Cnf Fault) : Type 0 where
  pub limit : length text ≤ 2 ^ 27
  pub reading : reading_of text ≡ given

-- the status is one of these
abbrev pub IsOneOf : ℕ → List ℕ → Type 0
IsOneOf number codes = Contains codes number
