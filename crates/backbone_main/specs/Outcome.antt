-- What a run of the program did, by how it ended.
use Rattle.std.specs.Prelude.{◌≡◌, ℕ, [], ◌∷◌, Option, Some, None}
use Rattle.bone_desk.specs.declared.desk.Port.TheVariants as port
use Rattle.bone_desk.specs.Told.{Told, WritesOnly}
use Rattle.bone_words.specs.Settings.{Extraction, Checking, Sampling, Wanted, to_extract, to_check, to_sample}
use Rattle.backbone_main.specs.declared.ending.Ending.{Ending}
use Rattle.backbone_main.specs.declared.ending.Ending.TheVariants.{OutOfMemory, Usage}
use Rattle.backbone_main.specs.Notes.{note_of, GainsNote}
use Rattle.backbone_main.specs.Causes.{ChangesItsOwn, IsOneOf}
use Rattle.backbone_main.specs.Words.{uses}
use Rattle.backbone_main.specs.Endings.{code_of, IsItsOwn}
use Rattle.backbone_main.specs.Extracting.{ExtractAccounts, Extracts, files_of}
use Rattle.backbone_main.specs.Checking.{CheckAccounts, Checks}
use Rattle.backbone_main.specs.Sampling.{SampleAccounts, Samples}

-- the words have no meaning, or were not read
abbrev pub UsageAccounts : Ending → Told → Told → Type 0
UsageAccounts Usage old new = WritesOnly port.Notes old new
UsageAccounts OutOfMemory old new = WritesOnly port.Notes old new
UsageAccounts ending old new = ⊥

-- what a run with so many workers did for what is wanted, by its ending
abbrev pub Accounts : ℕ → Option Wanted → Ending → Told → Told → Type 0
Accounts workers None ending old new = UsageAccounts ending old new
Accounts workers (Some (to_extract e)) ending old new = ExtractAccounts workers e.budget (files_of e) ending old new
Accounts workers (Some (to_check c)) ending old new = CheckAccounts c ending old new
Accounts workers (Some (to_sample s)) ending old new = SampleAccounts workers s ending old new

-- the status is that of an ending which tells what was done with so many workers, and its note was written last
pub record EndsWith (workers : ℕ) (wanted : Option Wanted) (number : ℕ) (old new : Told) : Type 0 where
  pub ending : Ending
  pub is_code : number ≡ code_of ending
  pub own : IsItsOwn (uses wanted) ending
  pub account : Accounts workers wanted ending old new
  pub note : GainsNote (note_of ending) old new

-- what a call does with so many workers for what is wanted, and the status that it answers. The first two say what
-- follows from the status, the others which statuses a cause leaves. Want of memory is always left.
pub record Serves (workers : ℕ) (wanted : Option Wanted) (number : ℕ) (old new : Told) : Type 0 where
  pub ends : EndsWith workers wanted number old new
  pub changes : ChangesItsOwn (uses wanted) old new
  pub usage : wanted ≡ None → IsOneOf number (64 ∷ 40 ∷ [])
  pub extracts : (e : Extraction) → wanted ≡ Some (to_extract e) → Extracts e number old new
  pub checks : (c : Checking) → wanted ≡ Some (to_check c) → Checks c number old new
  pub samples : (s : Sampling) → wanted ≡ Some (to_sample s) → Samples s number old new
