use Rattle.std.proofs.Common.{◌∙◌, ap, map}
use Rattle.std.specs.String.{string_bytes}
use Rattle.clap.specs.Words.{app_of}
use Rattle.clap.specs.Faults.{is_simple_and_free}
use Rattle.bone_words.specs.Commands.{sample_command}
use Rattle.bone_words.specs.Settings.{sampling_of}
use Rattle.bone_words.proofs.Simple.{sample_simple, read_rows, read_none}
use Rattle.bone_words.proofs.words.read_sample.Goals as goal

pub matches_of_words-requires : goal.matches_of_words-requires
matches_of_words-requires c = ap is_simple_and_free c.in_ok-sample_command.ensures ∙ sample_simple

pub returns-in-Ok-clause-value : goal.returns-in-Ok-clause-value
returns-in-Ok-clause-value c =
    read_rows (app_of c.in_ok-sample_command.field-0) sample_command sampling_of (map string_bytes c.args.words.now)
    c.in_ok-sample_command.ensures _ c.sampling_in.result c.in-Ok.ensures c.sampling_in.ensures.value

pub returns-in-Err-clause-value : goal.returns-in-Err-clause-value
returns-in-Err-clause-value c =
    read_none (app_of c.in_ok-sample_command.field-0) sample_command sampling_of (map string_bytes c.args.words.now)
    c.in_ok-sample_command.ensures c.in-Err.end c.in-Err.ensures
