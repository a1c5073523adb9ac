-- A piece that is longer than the buffer goes straight through, behind what waited.
use Rattle.std.proofs.Common.{◌≡◌, [], refl, rules}
use Rattle.std.proofs.lemmas.Result.{on_ok_weaker, err_from_is_err_and}
use Rattle.bone_desk.proofs.Pieces.{pushed_through, cut_waiting}
use Rattle.bone_desk.proofs.write.PortBuffer.push.Goals as goal

pub returns-in_err-flush-clause-err : goal.returns-in_err-flush-clause-err
returns-in_err-flush-clause-err g c =
    let p = err_from_is_err_and c.from_residual.result c.from_residual.ensures.1 in
    let before : c.args.self.now ≡ record { port = c.self.inside.port; bytes = c.try_extend_from_slice.new.self.items } = search rules in
    rw p.1 (cut_waiting c.args.piece.now _ _ c.args.self.now _ _ before
    c.in_err-flush.ensures.front c.in_err-flush.ensures.only c.in_err-flush.ensures.cause)

pub returns-clause-ok : goal.returns-clause-ok
returns-clause-ok g c =
    let before : c.args.self.now ≡ record { port = c.self.inside.port; bytes = c.try_extend_from_slice.new.self.items } = search rules in
    let empty : c.try_extend_from_slice-2.new.self.items ≡ [] = search rules in
    let same : c.self-2.inside.port ≡ c.self.inside.port = search rules in
    on_ok_weaker c.write_all.result
    (λ given. rw empty
    (pushed_through c.args.piece.now c.self.inside.port c.self-2.inside.port _ c.args.self.now _ _
    (g.D.Desk.told c.flush.new.desk) _ before refl same
    c.in_ok-flush.ensures.given c.in_ok-flush.ensures.only given c.write_all.ensures.only))
    c.write_all.ensures.given
