-- What the words of a command line ask for.
use Rattle.std.specs.Prelude.{◌≡◌, ◌≤◌, ℕ, Bool, false, if◌then◌else◌, List, [], ◌∷◌, Option, Some, None}
use Rattle.std.specs.Prelude.{option_and_then, option_map, unwrap_or, Result, MatchResult, codes}
use Rattle.std.specs.Str.{bytes_eq}
use Rattle.std.specs.Str.Parse.{digits_value, without_leading_plus}
use Rattle.std.specs.String.{string_bytes}
use Rattle.clap.specs.Faults.{fault_of}
use Rattle.clap.specs.Kinds.{Kinds}
use Rattle.clap.specs.Simple.{App, matches_of}
use Rattle.clap.specs.ValueTests.{is_unsigned_in}
use Rattle.clap.specs.Walk.{Row, Text, first_of}
use Rattle.bone_words.specs.Commands.{extract_command, check_command, sample_command}
use Rattle.bone_words.specs.Commands.{most_workers, most_budget, most_seed, least_vars, most_vars, most_clauses}
use Rattle.bone_words.specs.declared.asked.Settings.{Settings}
use Rattle.bone_words.specs.declared.asked.Settings.TheVariants.{Extract, Check, Sample}
use Rattle.bone_words.specs.declared.asked.WordsEnd.{WordsEnd}
use Rattle.bone_words.specs.declared.asked.WordsEnd.TheVariants.{Usage}

-- read a text, whose empty name is standard input, and write its answer; where they are named, a proof and a witness too
pub record Extraction : Type 0 where
  pub text : Text
  pub proof : Option Text
  pub witness : Option Text
  pub workers : ℕ
  pub budget : ℕ
  pub seed : ℕ

-- judge what was written for a text
pub record Checking : Type 0 where
  pub text : Text
  pub answer : Text
  pub proof : Text
  pub witness : Option Text

-- make a formula from numbers, and run it
pub record Sampling : Type 0 where
  pub vars : ℕ
  pub clauses : ℕ
  pub workers : ℕ
  pub budget : ℕ
  pub seed : ℕ

pub data Wanted : Type 0 where
  to_extract : Extraction → Wanted
  to_check : Checking → Wanted
  to_sample : Sampling → Wanted

-- the numbers are in their ranges
abbrev pub IsWithinLimits : Wanted → Type 0
IsWithinLimits (to_extract e) = (1 ≤ e.workers) × (e.workers ≤ most_workers) × (1 ≤ e.budget) × (e.budget ≤ most_budget)
IsWithinLimits (to_check c) = Unit {0}
IsWithinLimits (to_sample s) = (least_vars ≤ s.vars) × (s.vars ≤ most_vars) × (s.clauses ≤ most_clauses)
    × (1 ≤ s.workers) × (s.workers ≤ most_workers) × (1 ≤ s.budget) × (s.budget ≤ most_budget)

-- ---- from the words to what they ask for

-- what `clap` makes of the words by a command, where it doesn't refuse them
abbrev pub unless_refused : Kinds → List Row → Option (List Row)
unless_refused [] rows = Some rows
unless_refused (cause ∷ more) rows = None

unfoldable pub rows_of_words : App → List Text → Option (List Row)
rows_of_words a words = unless_refused (fault_of a words) (matches_of a words)

-- the number that a text writes: decimal digits, behind at most one plus
unfoldable pub number_in : ℕ → ℕ → Text → Option ℕ
number_in low high text =
    if is_unsigned_in low high text then Some (digits_value 10 (without_leading_plus text)) else None

-- the number of an option
abbrev pub number_at : Text → ℕ → ℕ → List Row → Option ℕ
number_at id low high rows = option_and_then (number_in low high) (first_of id rows)

abbrev pub workers_in : List Row → Option ℕ
workers_in rows = number_at (codes "workers") 1 most_workers rows

abbrev pub budget_in : List Row → Option ℕ
budget_in rows = number_at (codes "budget") 1 most_budget rows

abbrev pub seed_in : List Row → Option ℕ
seed_in rows = number_at (codes "seed") 0 most_seed rows

abbrev pub extraction_of : List Row → Option Wanted
extraction_of rows =
    option_and_then (λ workers.
    option_and_then (λ budget.
    option_map (λ seed. to_extract (record {
      text = unwrap_or (first_of (codes "text") rows) [];
      proof = first_of (codes "proof") rows;
      witness = first_of (codes "witness") rows;
      workers = workers;
      budget = budget;
      seed = seed;
    })) (seed_in rows)) (budget_in rows)) (workers_in rows)

abbrev pub checking_of : List Row → Option Wanted
checking_of rows =
    option_and_then (λ text.
    option_and_then (λ answer.
    option_map (λ proof. to_check (record {
      text = text;
      answer = answer;
      proof = proof;
      witness = first_of (codes "witness") rows;
    })) (first_of (codes "proof") rows)) (first_of (codes "answer") rows)) (first_of (codes "text") rows)

abbrev pub sampling_of : List Row → Option Wanted
sampling_of rows =
    option_and_then (λ vars.
    option_and_then (λ clauses.
    option_and_then (λ workers.
    option_and_then (λ budget.
    option_map (λ seed. to_sample (record {
      vars = vars;
      clauses = clauses;
      workers = workers;
      budget = budget;
      seed = seed;
    })) (seed_in rows)) (budget_in rows)) (workers_in rows))
    (number_at (codes "clauses") 0 most_clauses rows)) (number_at (codes "vars") least_vars most_vars rows)

-- the settings that words have by a command
unfoldable pub read_by : App → (List Row → Option Wanted) → List Text → Option Wanted
read_by a settings words = option_and_then settings (rows_of_words a words)

-- the first word is this one
abbrev pub is_named : Text → List Text → Bool
is_named name [] = false
is_named name (word ∷ rest) = bytes_eq word name

-- the settings of the words after the program's name: the first one names the command, and stands in the place of a
-- program's name among the words that `clap` reads by it
unfoldable pub settings_of : List Text → Option Wanted
settings_of words =
    if is_named (codes "extract") words then read_by extract_command extraction_of words
    else (if is_named (codes "check") words then read_by check_command checking_of words
    else (if is_named (codes "sample") words then read_by sample_command sampling_of words else None))

-- ---- what the reader answers

-- the settings that a value of the program tells
abbrev pub told : Settings → Wanted
told (Extract text proof witness workers budget seed) = to_extract (record {
  text = string_bytes text;
  proof = option_map string_bytes proof;
  witness = option_map string_bytes witness;
  workers = workers;
  budget = budget;
  seed = seed;
})
told (Check text answer proof witness) = to_check (record {
  text = string_bytes text;
  answer = string_bytes answer;
  proof = string_bytes proof;
  witness = option_map string_bytes witness;
})
told (Sample vars clauses workers budget seed) = to_sample (record {
  vars = vars;
  clauses = clauses;
  workers = workers;
  budget = budget;
  seed = seed;
})

-- the answer tells what is wanted, or says that nothing is; it may be want of memory
abbrev pub Answers : Option Wanted → Result Settings WordsEnd → Type 0
Answers wanted answer =
    MatchResult answer (λ settings. wanted ≡ Some (told settings)) (λ end. end ≡ Usage → wanted ≡ None)
