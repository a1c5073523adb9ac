-- Words and their settings, worked by the definition.
use Rattle.std.specs.Prelude.{◌≡◌, ◌≢◌, ℕ, [], ◌∷◌, Some, None, codes}
use Rattle.clap.specs.Walk.{Text}
use Rattle.bone_words.specs.Settings.{Wanted, to_extract, to_check, to_sample, settings_of}

-- what `extract` asks for where no option is used
abbrev pub plain_extraction : Text → Wanted
plain_extraction text = to_extract (record {
  text = text;
  proof = None;
  witness = None;
  workers = 4;
  budget = 200000;
  seed = 0;
})

-- the text's name may stand alone behind `extract`, or be left out for standard input
pub record NeedsNoOption : Type 0 where
  pub nothing : settings_of (codes "extract" ∷ []) ≡ Some (plain_extraction [])
  pub empty : settings_of (codes "extract" ∷ [] ∷ []) ≡ Some (plain_extraction [])
  pub name : (first : ℕ) (rest : Text) → first ≢ 45
      → settings_of (codes "extract" ∷ (first ∷ rest) ∷ []) ≡ Some (plain_extraction (first ∷ rest))

-- a line of each kind
pub record LinesAreWorked : Type 0 where
  pub options : settings_of (codes "extract" ∷ codes "--workers=+003" ∷ codes "--proof" ∷ codes "p" ∷ codes "f"
      ∷ codes "--witness=-w" ∷ codes "--seed" ∷ codes "18446744073709551615" ∷ [])
      ≡ Some (to_extract (record {
        text = codes "f";
        proof = Some (codes "p");
        witness = Some (codes "-w");
        workers = 3;
        budget = 200000;
        seed = 18446744073709551615;
      }))
  pub past_the_range : settings_of (codes "extract" ∷ codes "--workers" ∷ codes "17" ∷ codes "f" ∷ []) ≡ None
  pub help : settings_of (codes "extract" ∷ codes "--help" ∷ []) ≡ None
  pub two_names : settings_of (codes "extract" ∷ codes "a" ∷ codes "b" ∷ []) ≡ None
  pub checks : settings_of (codes "check" ∷ codes "f" ∷ codes "a" ∷ codes "p" ∷ [])
      ≡ Some (to_check (record { text = codes "f"; answer = codes "a"; proof = codes "p"; witness = None }))
  pub too_few_names : settings_of (codes "check" ∷ codes "f" ∷ []) ≡ None
  pub samples : settings_of (codes "sample" ∷ codes "--clauses" ∷ codes "+0" ∷ [])
      ≡ Some (to_sample (record { vars = 2000; clauses = 0; workers = 4; budget = 200000; seed = 0 }))
  pub nothing : settings_of [] ≡ None
  pub no_command : settings_of (codes "Extract" ∷ []) ≡ None
