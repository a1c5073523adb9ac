-- A failure when what waits is given: nothing had been given before that isn't of the line.
use Rattle.std.proofs.lemmas.Result.{on_err_weaker}
use Rattle.bone_desk.proofs.Pieces.{whole_cut}
use Rattle.backbone_main.specs.Verdicts.{verdict_text}
use Rattle.backbone_main.proofs.verdict_text.write_verdict.Goals as goal

pub returns-clause-front : goal.returns-clause-front
returns-clause-front g c =
    on_err_weaker c.flush.result
    (whole_cut (verdict_text c.args.verdict) c.new-buffer.ensures c.in_ok-push_verdict.ensures.ok)
    c.flush.ensures.front
