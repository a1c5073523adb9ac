use Rattle.std.proofs.Common.{arith}
use Rattle.core_chunks.proofs.Parts.{full_block, group_next}
use Rattle.core_chunks.proofs.push_groups.Goals as goal

pub returns-then-len-size-clause-items : goal.returns-then-len-size-clause-items
returns-then-len-size-clause-items c =
    full_block c.args.size c.args.first c.loop-group.group c.args.end c.args.seen.now c.args.block.now.items c.loop-group.block.items
    (omega arith) (omega arith) (omega (arith, c.if-len-size.true, c.len.ensures)) c.loop-group.invariant.0

pub loop-group-preserved : goal.loop-group-preserved
loop-group-preserved c = (
  group_next c.args.size c.args.first c.loop-group.group c.open_bits.result c.args.seen.now c.args.block.now.items c.loop-group.block.items
      c.push_group.new.block.items (omega arith) c.open_bits.ensures c.loop-group.invariant.0 c.in_ok-push_group.ensures.items,
  c.in_ok-push_group.ensures.room,
)
