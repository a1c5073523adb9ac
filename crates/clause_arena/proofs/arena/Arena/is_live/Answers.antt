use Rattle.std.proofs.Common.{arith}
use Rattle.clause_arena.proofs.Laid.{length_is, read_mark}
use Rattle.clause_arena.proofs.arena.Arena.is_live.Goals as goal

pub index-requires : goal.index-requires
index-requires c =
    omega (arith, length_is _ _ _ _ (record { laid = c.self.invariant; is = c.self.view_is }), c.place.ensures)

pub returns : goal.returns
returns c =
    let read = rw c.place.ensures at c.index.ensures in
    (read_mark _ _ _ _ _ _ (record { laid = c.self.invariant; is = c.self.view_is }) c.requires read).2
