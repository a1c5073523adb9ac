-- What a run does before its note: it opens what is named, reads the text, and goes on from there.
use Rattle.std.specs.Prelude.{◌≡◌, ◌^◌, ◌<◌, ◌≤◌, ℕ, IsTrue, Option, Some, None, Ok, option_map}
use Rattle.std.specs.String.{string_bytes}
use Rattle.bone_desk.specs.declared.desk.Feed.{Feed}
use Rattle.bone_desk.specs.declared.desk.Feed.TheVariants as feed
use Rattle.bone_desk.specs.declared.desk.Port.{Port}
use Rattle.bone_desk.specs.declared.desk.Port.TheVariants as port
use Rattle.bone_desk.specs.declared.desk.Act.{Act}
use Rattle.bone_desk.specs.declared.desk.Act.TheVariants.{OpenFeed, OpenPort, Read, Write}
use Rattle.bone_desk.specs.Told.{Told, CountsOnly, Rose, SameBytes}
use Rattle.bone_words.specs.Settings.{Wanted, to_extract, to_check, to_sample}
use Rattle.bone_words.specs.Settings as settings
use Rattle.backbone_main.specs.Causes.{Acts, turn_of, ChangesItsOwn, FailsToOpen, FailsToRead, FindsTooLong, ReadsText, RefusesText, WritesNothing}
use Rattle.backbone_main.specs.Words.{uses}
use Rattle.backbone_main.specs.Endings.{IsItsOwn}
use Rattle.backbone_main.specs.Extracting.{ExtractAccounts, files_of}
use Rattle.backbone_main.specs.Outcome.{Accounts}
use Rattle.backbone_main.specs.declared.task.Files.{Files}
use Rattle.backbone_main.specs.declared.task.Task.{Task}
use Rattle.backbone_main.specs.declared.task.Extraction.{Extraction}
use Rattle.backbone_main.specs.declared.check.Checking.{Checking}
use Rattle.backbone_main.specs.declared.sampling.Sampling.{Sampling}
use Rattle.backbone_main.specs.declared.job.Job.{Job}
use Rattle.backbone_main.specs.declared.job.Job.TheVariants.{Extract, Check, Sample}
use Rattle.backbone_main.specs.declared.ending.Ending.{Ending}
use Rattle.backbone_main.specs.declared.ending.Ending.TheVariants.{OutOfMemory, BadText, TooLong, Failed, Usage}

-- before its note a call does its own, and leaves the Notes port alone
pub record Touches (may : Acts) (old new : Told) : Type 0 where
  pub own : ChangesItsOwn may old new
  pub notes : new.put port.Notes ≡ old.put port.Notes
  pub notes_count : new.faults (Write port.Notes) ≡ old.faults (Write port.Notes)

-- and before it writes it leaves all ports alone
pub record TouchesText (may : Acts) (old new : Told) : Type 0 where
  pub own : ChangesItsOwn may old new
  pub put : (p : Port) → new.put p ≡ old.put p
  pub writes : (p : Port) → new.faults (Write p) ≡ old.faults (Write p)

-- something that is named was opened, or could not be, in no turn behind this one
pub record Opens (may : Acts) (last : ℕ) (old new : Told) : Type 0 where
  pub own : ChangesItsOwn may old new
  pub early : last < turn_of (Read feed.Text)
  pub counts : (a : Act) → last < turn_of a → new.faults a ≡ old.faults a
  pub same : SameBytes old new
  pub reads : (f : Feed) → new.faults (Read f) ≡ old.faults (Read f)
  pub writes : (p : Port) → new.faults (Write p) ≡ old.faults (Write p)

-- this opening failed, and so ends the run
pub record IsFailedOpening (act : Act) (ending : Ending) (old new : Told) : Type 0 where
  pub is : ending ≡ Failed act
  pub same : SameBytes old new
  pub only : CountsOnly act old new
  pub rose : Rose act old new

-- an opening that is wanted failed
abbrev pub IsUnopened : Acts → Ending → Told → Told → Type 0
IsUnopened may (Failed (OpenFeed f)) old new = IsTrue (may (OpenFeed f)) × FailsToOpen (OpenFeed f) old new
IsUnopened may (Failed (OpenPort p)) old new = IsTrue (may (OpenPort p)) × FailsToOpen (OpenPort p) old new
IsUnopened may ending old new = ⊥

-- the text gave no formula
abbrev pub IsUnread : Ending → Told → Told → Type 0
IsUnread (Failed (Read feed.Text)) old new = FailsToRead old new
IsUnread (TooLong feed.Text) old new = FindsTooLong old new
IsUnread (BadText fault) old new = RefusesText fault old new
IsUnread OutOfMemory old new = WritesNothing old new
IsUnread ending old new = ⊥

-- nothing was read, and what was written was wanted; so is an act that failed
pub record WritesOwn (may : Acts) (ending : Ending) (old new : Told) : Type 0 where
  pub touches : Touches may old new
  pub left : (f : Feed) → new.left f ≡ old.left f
  pub own : IsItsOwn may ending

-- ---- the words

-- what an extraction, a check and a sample were asked by
abbrev pub asked : Extraction → settings.Extraction
asked e = record {
  text = string_bytes e.text;
  proof = option_map string_bytes e.proof;
  witness = option_map string_bytes e.witness;
  workers = e.settings.workers;
  budget = e.settings.budget;
  seed = e.settings.seed;
}

abbrev pub asked_check : Checking → settings.Checking
asked_check c = record {
  text = string_bytes c.text;
  answer = string_bytes c.answer;
  proof = string_bytes c.proof;
  witness = option_map string_bytes c.witness;
}

abbrev pub asked_sample : Sampling → settings.Sampling
asked_sample s = record {
  vars = s.vars;
  clauses = s.clauses;
  workers = s.settings.workers;
  budget = s.settings.budget;
  seed = s.settings.seed;
}

-- the job is what is wanted
abbrev pub IsJob : Wanted → Job → Type 0
IsJob wanted (Extract e) = wanted ≡ to_extract (asked e)
IsJob wanted (Check c) = wanted ≡ to_check (asked_check c)
IsJob wanted (Sample s) = wanted ≡ to_sample (asked_sample s)

abbrev pub IsJobOf : Option Wanted → Job → Type 0
IsJobOf None job = ⊥
IsJobOf (Some wanted) job = IsJob wanted job

-- a run of the words ends so before anything is done
abbrev pub IsWordless : Option Wanted → Ending → Type 0
IsWordless wanted Usage = wanted ≡ None
IsWordless wanted OutOfMemory = Unit {0}
IsWordless wanted ending = ⊥

-- an extraction has workers, and a budget for each
pub record HasLimits (e : Extraction) : Type 0 where
  pub some_workers : 1 ≤ e.settings.workers
  pub most_workers : e.settings.workers ≤ 16
  pub some_budget : 1 ≤ e.settings.budget
  pub most_budget : e.settings.budget ≤ 2 ^ 40

-- a sample has numbers that make a formula, workers, and a budget for each
pub record HasSampleLimits (s : Sampling) : Type 0 where
  pub some_vars : 3 ≤ s.vars
  pub most_vars : s.vars ≤ 2 ^ 20
  pub most_clauses : s.clauses ≤ 2 ^ 21
  pub some_workers : 1 ≤ s.settings.workers
  pub most_workers : s.settings.workers ≤ 16
  pub some_budget : 1 ≤ s.settings.budget
  pub most_budget : s.settings.budget ≤ 2 ^ 40

abbrev pub HasJobLimits : Job → Type 0
HasJobLimits (Extract e) = HasLimits e
HasJobLimits (Check c) = Unit {0}
HasJobLimits (Sample s) = HasSampleLimits s

-- ---- an extraction

-- a run ends so before its search, whatever its workers and their budget are
pub record IsRefused (may : Acts) (ending : Ending) (old new : Told) : Type 0 where
  pub account : (workers budget : ℕ) (files : Files) → ExtractAccounts workers budget files ending old new
  pub own : IsItsOwn may ending

-- the formula of the text was read, and a run over it has these settings and files
pub record IsTask (e : Extraction) (task : Task) (old new : Told) : Type 0 where
  pub read : ReadsText (Ok task.formula) old new
  pub files : task.files ≡ files_of (asked e)
  pub settings : task.settings ≡ e.settings

-- ---- a whole run

-- what was done for what is wanted, but for the note
pub record Runs (workers : ℕ) (wanted : Option Wanted) (ending : Ending) (old new : Told) : Type 0 where
  pub account : Accounts workers wanted ending old new
  pub own : IsItsOwn (uses wanted) ending
  pub touches : Touches (uses wanted) old new
