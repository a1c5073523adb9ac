use Rattle.std.proofs.Common.{◌-◌, ◌/◌, arith}
use Rattle.core_chunks.proofs.Parts.{open_var}
use Rattle.core_chunks.proofs.is_open.Goals as goal

pub returns-then-group-seen : goal.returns-then-group-seen
returns-then-group-seen c =
    open_var c.args.seen.now c.args.var c.open_bits.result c.requires
    (omega (arith, c.type_inv.seen ((c.args.var - 1) / 32))) c.open_bits.ensures
