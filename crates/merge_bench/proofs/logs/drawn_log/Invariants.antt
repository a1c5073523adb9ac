use Rattle.merge_bench.specs.Drawn.{IsDrawn}
use Rattle.merge_bench.proofs.logs.drawn_log.Given as goal

abbrev pub invariant-loop-k : goal.invariant-loop-k
invariant-loop-k l = IsDrawn l.formula l.k l.log
