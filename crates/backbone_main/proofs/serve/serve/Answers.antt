-- The run, and its note.
use Rattle.std.proofs.Common.{map}
use Rattle.std.specs.String.{string_bytes}
use Rattle.bone_words.specs.Settings.{settings_of}
use Rattle.backbone_main.specs.Words.{workers_of}
use Rattle.backbone_main.proofs.serve.serve.Goals as goal

pub returns : goal.returns
returns g c =
    let wanted = settings_of (map string_bytes c.args.words.now) in
    c.conclude.ensures (workers_of wanted) wanted (g.D.Desk.told c.args.desk.now) c.run_threads-ending.ensures
