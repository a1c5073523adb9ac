use Rattle.std.specs.Prelude.{All}
use Rattle.lrat_lines.specs.Tidy.{IsHint}
use Rattle.merge_bench.specs.Drawn.{BeginWithFirst}
use Rattle.merge_bench.proofs.drawn.draw_hints.Given as goal

abbrev pub invariant-loop-k : goal.invariant-loop-k
invariant-loop-k l = record {
  first : BeginWithFirst l.hints.items;
  low : All (IsHint l.id) l.hints.items;
}
