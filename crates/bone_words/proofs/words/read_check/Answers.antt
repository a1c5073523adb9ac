use Rattle.std.proofs.Common.{◌∙◌, ap, map}
use Rattle.std.specs.String.{string_bytes}
use Rattle.clap.specs.Words.{app_of}
use Rattle.clap.specs.Faults.{is_simple_and_free}
use Rattle.bone_words.specs.Commands.{check_command}
use Rattle.bone_words.specs.Settings.{checking_of}
use Rattle.bone_words.proofs.Simple.{check_simple, read_rows, read_none}
use Rattle.bone_words.proofs.words.read_check.Goals as goal

pub matches_of_words-requires : goal.matches_of_words-requires
matches_of_words-requires c = ap is_simple_and_free c.in_ok-check_command.ensures ∙ check_simple

pub returns-in-Ok-clause-value : goal.returns-in-Ok-clause-value
returns-in-Ok-clause-value c =
    read_rows (app_of c.in_ok-check_command.field-0) check_command checking_of (map string_bytes c.args.words.now)
    c.in_ok-check_command.ensures _ c.checking_in.result c.in-Ok.ensures c.checking_in.ensures.value

pub returns-in-Err-clause-value : goal.returns-in-Err-clause-value
returns-in-Err-clause-value c =
    read_none (app_of c.in_ok-check_command.field-0) check_command checking_of (map string_bytes c.args.words.now)
    c.in_ok-check_command.ensures c.in-Err.end c.in-Err.ensures
