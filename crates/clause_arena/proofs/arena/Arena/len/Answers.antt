use Rattle.std.proofs.Common.{arith}
use Rattle.clause_arena.proofs.Laid.{length_is}
use Rattle.clause_arena.proofs.arena.Arena.len.Goals as goal

pub returns : goal.returns
returns c = omega (arith, c.len.ensures, length_is _ _ _ _ (record { laid = c.self.invariant; is = c.self.view_is }))
