use Rattle.std.proofs.Common.{◌<◌, length, sym, subst, arith}
use Rattle.trail_core.specs.Trails.{TrailState}
use Rattle.trail_core.proofs.Lookups.{var_of_read}
use Rattle.trail_core.proofs.trail.Trail.entry.Goals as goal

pub index-origin-requires : goal.index-origin-requires
index-origin-requires c =
    omega (
      arith,
      c.var.ensures.value,
      var_of_read _ _ _ _ c.args.i c.index-lit.result.now c.self.invariant.tables.placed
          (subst (λ (t : TrailState). c.args.i < length t.entries) (sym c.self.view_is) c.requires) c.index-lit.ensures,
    )
