-- There is a mark for each variable.
use Rattle.std.proofs.Common.{◌≡◌, length}
use Rattle.flip_bench.proofs.rounds.count_marks.Given as goal

abbrev pub invariant-loop-round : goal.invariant-loop-round
invariant-loop-round l = length l.marks ≡ l.formula.vars
