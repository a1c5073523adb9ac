use Rattle.std.proofs.Common.{sym, subst, arith}
use Rattle.trail_core.specs.Trails.{IsFree}
use Rattle.trail_core.proofs.Lookups.{deep}
use Rattle.trail_core.proofs.trail.Trail.decide.Goals as goal

pub overflow_add-level : goal.overflow_add-level
overflow_add-level c =
    omega (
      arith,
      deep _ _ c.self.invariant.leveled,
      c.self.invariant.room,
      c.self.invariant.vars_limit,
      c.self.invariant.tables.placed.blanks,
    )

pub put-requires-clause-free : goal.put-requires-clause-free
put-requires-clause-free c =
    subst (λ t. IsFree t.entries c.args.lit.var) (sym c.self.view_is) c.requires.free
