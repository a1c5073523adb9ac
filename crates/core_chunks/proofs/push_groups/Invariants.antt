use Rattle.std.proofs.Common.{◌≡◌, ◌≤◌, ◌-◌, ◌++◌, take, vec_len}
use Rattle.core_chunks.specs.Chunks.{open_in_groups}
use Rattle.core_chunks.proofs.push_groups.Given as goal

-- the block has the variables of the groups so far
abbrev pub invariant-loop-group : goal.invariant-loop-group
invariant-loop-group l =
    (l.block.items ≡ take l.size (l.fn.block.items ++ open_in_groups l.seen l.first (l.group - l.first))) × (vec_len l.block ≤ l.size)
