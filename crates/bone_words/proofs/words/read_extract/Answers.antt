use Rattle.std.proofs.Common.{◌∙◌, ap, map}
use Rattle.std.specs.String.{string_bytes}
use Rattle.clap.specs.Words.{app_of}
use Rattle.clap.specs.Faults.{is_simple_and_free}
use Rattle.bone_words.specs.Commands.{extract_command}
use Rattle.bone_words.specs.Settings.{extraction_of}
use Rattle.bone_words.proofs.Simple.{extract_simple, read_rows, read_none}
use Rattle.bone_words.proofs.words.read_extract.Goals as goal

pub matches_of_words-requires : goal.matches_of_words-requires
matches_of_words-requires c = ap is_simple_and_free c.in_ok-extract_command.ensures ∙ extract_simple

pub returns-in-Ok-clause-value : goal.returns-in-Ok-clause-value
returns-in-Ok-clause-value c =
    read_rows (app_of c.in_ok-extract_command.field-0) extract_command extraction_of (map string_bytes c.args.words.now)
    c.in_ok-extract_command.ensures _ c.extraction_in.result c.in-Ok.ensures c.extraction_in.ensures.value

pub returns-in-Err-clause-value : goal.returns-in-Err-clause-value
returns-in-Err-clause-value c =
    read_none (app_of c.in_ok-extract_command.field-0) extract_command extraction_of (map string_bytes c.args.words.now)
    c.in_ok-extract_command.ensures c.in-Err.end c.in-Err.ensures
