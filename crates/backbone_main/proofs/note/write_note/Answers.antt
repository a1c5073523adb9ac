-- A failure when what waits is given: nothing had been given before that isn't of the note.
use Rattle.std.proofs.lemmas.Result.{on_err_weaker}
use Rattle.bone_desk.proofs.Pieces.{whole_cut}
use Rattle.backbone_main.specs.Notes.{note_of}
use Rattle.backbone_main.proofs.note.write_note.Goals as goal

pub returns-clause-front : goal.returns-clause-front
returns-clause-front g c =
    on_err_weaker c.flush.result
    (whole_cut (note_of c.args.ending) c.new-buffer.ensures c.in_ok-push_note.ensures.ok)
    c.flush.ensures.front
