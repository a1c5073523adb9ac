use Rattle.std.proofs.Common.{map}
use Rattle.std.specs.String.{string_bytes}
use Rattle.clap.specs.Words.{app_of, kind_of}
use Rattle.bone_words.proofs.Refusals.{rows_taken, rows_refused}
use Rattle.bone_words.proofs.words.matches_of_words.Goals as goal

pub returns-in-Ok : goal.returns-in-Ok
returns-in-Ok c =
    rows_taken (app_of c.args.command) (map string_bytes c.args.words.now) _ c.requires (c.in-Ok.ensures.kinds c.requires)
    (λ simple. (c.in-Ok.ensures.matches simple).0)

pub returns-in-Err : goal.returns-in-Err
returns-in-Err c =
    rows_refused (app_of c.args.command) (map string_bytes c.args.words.now) (kind_of c.in-Err.error) c.end_of.result
    (c.in-Err.ensures.kinds c.requires) c.end_of.ensures
