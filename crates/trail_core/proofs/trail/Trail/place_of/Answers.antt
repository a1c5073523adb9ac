use Rattle.std.proofs.Common.{subst}
use Rattle.trail_core.specs.Trails.{IsTrail}
use Rattle.trail_core.proofs.Lookups.{trail_is}
use Rattle.trail_core.proofs.trail.Trail.place_of.Goals as goal

pub returns-clause-trail : goal.returns-clause-trail
returns-clause-trail c = subst IsTrail c.self.view_is (trail_is _ _ _ _ _ _ _ _ _ _ c.self.invariant)
