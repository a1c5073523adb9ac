use Rattle.std.proofs.Common.{◌≤◌}
use Rattle.std.specs.Vec.{vec_capacity}
use Rattle.worker_loop.specs.Steps.Dropping.{witness_of}
use Rattle.worker_loop.proofs.Recording.{IsRecorded}
use Rattle.worker_loop.proofs.dropping.record_drops.Given as goal

-- the list has the witnesses of the bits so far
abbrev pub invariant-loop-bit : goal.invariant-loop-bit
invariant-loop-bit l = record {
  items : IsRecorded (witness_of l.source) l.group l.won l.bit l.fn.drops.items l.drops.items;
  room : vec_capacity l.fn.drops ≤ vec_capacity l.drops;
}
