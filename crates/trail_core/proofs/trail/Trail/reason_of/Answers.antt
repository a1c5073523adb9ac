use Rattle.std.proofs.Common.{ℕ, ◌<◌, ◌≡◌, length, sym, subst, arith}
use Rattle.trail_core.specs.Trails.{TrailState, assigned_at, HasVariable}
use Rattle.trail_core.proofs.Lookups.{origin_read, var_within, count_laid}
use Rattle.trail_core.proofs.trail.Trail.reason_of.Goals as goal

pub returns : goal.returns
returns c =
    let has : HasVariable _ c.args.var = subst (λ (t : TrailState). HasVariable t.entries c.args.var) (sym c.self.view_is) c.requires in
    let p = c.self.invariant.tables.placed in
    subst (λ (t : TrailState). (k : ℕ) → k < length t.entries → (assigned_at t.entries k).lit.var ≡ c.args.var
    → c.index.result.now.reason ≡ (assigned_at t.entries k).reason)
    c.self.view_is
    (λ k lt is. sym (origin_read c.self.inside.origins.items c.self.inside.lits.items c.args.var k c.index.result.now
    (omega (arith, p.count, (var_within _ _ _ _ _ p has).1)) c.index.ensures
    (omega (arith, count_laid c.self.inside.origins.items c.self.inside.lits.items)) is).1)
