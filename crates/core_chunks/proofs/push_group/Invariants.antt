use Rattle.std.proofs.Common.{◌≡◌, ◌≤◌, ◌++◌, ◌*◌, suc, take, vec_len}
use Rattle.board_core.specs.Words.{vars_from}
use Rattle.core_chunks.proofs.push_group.Given as goal

-- the block has the variables of the bits so far
abbrev pub invariant-loop-bit : goal.invariant-loop-bit
invariant-loop-bit l =
    (l.block.items ≡ take l.size (l.fn.block.items ++ vars_from l.bit (suc (32 * l.group)) l.bits)) × (vec_len l.block ≤ l.size)
