use Rattle.std.proofs.Common.{◌*◌, ◌<◌, arith}
use Rattle.std.proofs.Math.Nat.{mul-lt-mul_of_pos_left, div-lt_iff_lt-mul}
use Rattle.local_search.proofs.draws.below.Goals as goal

-- a share of the count that is less than one
pub returns : goal.returns
returns c =
    let product : c.args.count * c.from.result < c.args.count * 4294967296 =
    mul-lt-mul_of_pos_left {m = c.from.result} {n = 4294967296} {k = c.args.count} (omega (arith, c.from.ensures, c.ranges.word.fits)) c.requires in
    (div-lt_iff_lt-mul {k = 4294967296} {x = c.saturating_mul.result} {y = c.args.count} (omega arith)).1
    (omega (arith, c.saturating_mul.ensures, product))
