-- The walker keeps its room.
use Rattle.std.proofs.Common.{◌≡◌}
use Rattle.flip_bench.proofs.rounds.count_flips.Given as goal

abbrev pub invariant-loop-round : goal.invariant-loop-round
invariant-loop-round l = l.walker ≡ l.vars
