-- The model keeps a value for each variable.
use Rattle.std.proofs.Common.{◌≡◌, length}
use Rattle.flip_bench.proofs.chain.chain.Given as goal

abbrev pub invariant-loop-var : goal.invariant-loop-var
invariant-loop-var l = length l.model ≡ l.vars
