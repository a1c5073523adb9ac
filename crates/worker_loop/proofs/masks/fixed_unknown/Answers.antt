use Rattle.std.proofs.Common.{◌≡◌, ◌+◌, ◌-◌, ◌/◌, arith, w32}
use Rattle.std.specs.Int.{bit_at}
use Rattle.std.proofs.lemmas.Nat.Bits.{bit_at_and, bit_at_not, bit_at-lt}
use Rattle.board_core.proofs.Bits.{bit_at_upper}
use Rattle.worker_loop.proofs.masks.fixed_unknown.Goals as goal

pub returns : goal.returns
returns c i low =
    let rest : bit_at (4294967295 - c.args.known) i ≡ 1 - bit_at c.args.known i = bit_at_not w32 c.args.known i
    (omega (arith, c.ranges.known)) low in
    omega (
      arith,
      bit_at_and (c.args.word / 4294967296) (4294967295 - c.args.known) i,
      bit_at_upper c.args.word i,
      rest,
      bit_at-lt c.args.word (32 + i),
    )
