-- A name that doesn't begin with a dash is taken for no option.
use Rattle.std.proofs.Common.{◌≡◌, ◌==◌, ℕ, Some, refl, false, [], ◌∷◌, codes}
use Rattle.std.proofs.lemmas.Bool.{ne_eqb}
use Rattle.clap.specs.Walk.{Text}
use Rattle.clap.proofs.OnLiterals.{clap_on_literals}
use Rattle.bone_words.specs.Commands.{extract_command}
use Rattle.bone_words.specs.Settings.{settings_of, read_by, rows_of_words, number_in}
use Rattle.bone_words.specs.Laws.{plain_extraction}
use Rattle.bone_words.proofs.laws.extract_needs_no_option.Goals as goal

named : (first : ℕ) (rest : Text) → (first == 45) ≡ false
    → settings_of (codes "extract" ∷ (first ∷ rest) ∷ []) ≡ Some (plain_extraction (first ∷ rest))
unfolding settings_of read_by rows_of_words number_in extract_command clap_on_literals
named first rest no_dash = simp no_dash refl

pub returns : goal.returns
unfolding settings_of read_by rows_of_words number_in extract_command clap_on_literals
returns c = record {
  nothing = refl;
  empty = refl;
  name = λ first rest no_dash. named first rest (ne_eqb first 45 no_dash);
}
