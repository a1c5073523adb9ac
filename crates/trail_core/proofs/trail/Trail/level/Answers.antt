use Rattle.std.proofs.Common.{subst, arith}
use Rattle.trail_core.specs.Trails.{IsTrail}
use Rattle.trail_core.proofs.Lookups.{trail_is, few_levels}
use Rattle.trail_core.proofs.trail.Trail.level.Goals as goal

pub overflow_cast-result : goal.overflow_cast-result
overflow_cast-result c =
    omega (arith, c.len.ensures, few_levels _ _ _ _ _ _ _ _ _ _ c.self.invariant, c.self.invariant.vars_limit)

pub returns-clause-trail : goal.returns-clause-trail
returns-clause-trail c = subst IsTrail c.self.view_is (trail_is _ _ _ _ _ _ _ _ _ _ c.self.invariant)
