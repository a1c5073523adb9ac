-- The commands are of the kind whose matches `clap` defines.
use Rattle.std.proofs.Common.{◌≡◌, ◌∙◌, true, refl, List, Option, Some, None, ap, sym, subst, Result}
use Rattle.std.specs.Prelude.{option_and_then}
use Rattle.clap.specs.Faults.{is_simple_and_free}
use Rattle.clap.specs.Simple.{App}
use Rattle.clap.specs.Walk.{Row, Text}
use Rattle.bone_words.specs.declared.asked.Settings.{Settings}
use Rattle.bone_words.specs.declared.asked.WordsEnd.{WordsEnd}
use Rattle.bone_words.specs.declared.asked.WordsEnd.TheVariants.{Usage}
use Rattle.bone_words.specs.Commands.{extract_command, check_command, sample_command}
use Rattle.bone_words.specs.Settings.{Wanted, Answers, read_by, rows_of_words}

pub extract_simple : is_simple_and_free extract_command ≡ true
unfolding extract_command
extract_simple = refl

pub check_simple : is_simple_and_free check_command ≡ true
unfolding check_command
check_simple = refl

pub sample_simple : is_simple_and_free sample_command ≡ true
unfolding sample_command
sample_simple = refl

module _ (a b : App) (settings : List Row → Option Wanted) (words : List Text) (same : a ≡ b) where
  -- the rows that the words have give their settings
  pub read_rows : (rows : List Row) (answer : Result Settings WordsEnd) → rows_of_words a words ≡ Some rows
      → Answers (settings rows) answer → Answers (read_by b settings words) answer
  unfolding read_by
  read_rows rows answer found answers =
      let read : read_by b settings words ≡ settings rows =
      ap (λ (o : Option (List Row)). option_and_then settings o) (ap (λ (x : App). rows_of_words x words) (sym same) ∙ found) in
      let P : Option Wanted → Type 0 = λ wanted. Answers wanted answer in
      subst P (sym read) answers

  -- words without rows have no settings
  pub read_none : (end : WordsEnd) → (end ≡ Usage → rows_of_words a words ≡ None) → end ≡ Usage → read_by b settings words ≡ None
  unfolding read_by
  read_none end none usage =
      ap (λ (o : Option (List Row)). option_and_then settings o) (ap (λ (x : App). rows_of_words x words) (sym same) ∙ none usage)
