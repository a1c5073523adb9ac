-- The run, and its note.
use Rattle.std.proofs.Common.{map}
use Rattle.std.specs.String.{string_bytes}
use Rattle.bone_words.specs.Settings.{settings_of}
use Rattle.backbone_main.proofs.serve.alone.Goals as goal

pub returns : goal.returns
returns g c =
    let wanted = settings_of (map string_bytes c.args.words.now) in
    c.conclude.ensures 1 wanted (g.D.Desk.told c.args.desk.now) c.run_alone-ending.ensures
