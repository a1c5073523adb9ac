-- The definitions compute at words that are written out.
use Rattle.std.proofs.Common.{refl}
use Rattle.clap.proofs.OnLiterals.{clap_on_literals}
use Rattle.bone_words.specs.Commands.{extract_command, check_command, sample_command}
use Rattle.bone_words.specs.Settings.{settings_of, read_by, rows_of_words, number_in}
use Rattle.bone_words.proofs.laws.worked_lines.Goals as goal

pub returns : goal.returns
unfolding settings_of read_by rows_of_words number_in extract_command check_command sample_command clap_on_literals
returns c = record {
  options = refl;
  past_the_range = refl;
  help = refl;
  two_names = refl;
  checks = refl;
  too_few_names = refl;
  samples = refl;
  nothing = refl;
  no_command = refl;
}
