use Rattle.std.proofs.Common.{ℕ, ◌<◌, ◌≤◌, subst, arith}
use Rattle.trail_core.specs.Trails.{HasVariable, IsFirstFree}
use Rattle.trail_core.proofs.Lookups.{first_free_is, none_free}
use Rattle.trail_core.proofs.trail.Trail.first_free.Goals as goal

pub returns-then-free-self-clause-some : goal.returns-then-free-self-clause-some
returns-then-free-self-clause-some c =
    subst (λ t. IsFirstFree t c.next_free-free.result) c.self.view_is
    (first_free_is _ _ _ _ _ _ c.self.invariant.tables c.next_free-free.ensures.bounds.0 c.if-free-self.true
    (c.next_free-free.ensures.unset (omega (arith, c.self.invariant.tables.values.count, c.if-free-self.true)))
    c.next_free-free.ensures.passed)

pub returns-else-free-self-clause-none : goal.returns-else-free-self-clause-none
returns-else-free-self-clause-none c =
    subst (λ t. (u : ℕ) → 0 < u → u ≤ t.vars → HasVariable t.entries u) c.self.view_is
    (none_free _ _ _ _ _ _ _ c.self.invariant.tables c.if-free-self.false c.next_free-free.ensures.passed)
