use Rattle.std.proofs.Common.{arith}
use Rattle.conflict_analysis.proofs.Literals.{var_of_false}
use Rattle.conflict_analysis.proofs.Walking.{var_low}
use Rattle.conflict_analysis.proofs.walk.Walk.core.Goals as goal

pub mark-requires : goal.mark-requires
mark-requires c =
    let f = c.requires.falsified in
    let low = var_low c.args.trail.now f.place c.args.lit c.place_of-place.ensures.trail f.within (var_of_false _ c.args.lit f.lit) in
    omega (arith, low, c.var-2.ensures.value, c.start.ensures.size, c.requires.size)
