-- A failure when what waits is given: nothing had been given before that isn't of the text.
use Rattle.std.proofs.lemmas.Result.{err_from_is_err_and}
use Rattle.bone_desk.proofs.Pieces.{whole_cut}
use Rattle.witness_text.specs.WitnessText.{store_text}
use Rattle.witness_text.proofs.write.write_witness.Goals as goal

pub returns-in_err-flush-clause-front : goal.returns-in_err-flush-clause-front
returns-in_err-flush-clause-front g c =
    let p = err_from_is_err_and c.from_residual-in_err-flush.result c.from_residual-in_err-flush.ensures.1 in
    rw p.1 (whole_cut (store_text c.args.models.now c.args.drops.now) c.new-buffer.ensures c.in_ok-push_witness.ensures.ok
    c.in_err-flush.ensures.front)
