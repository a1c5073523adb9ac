use Rattle.std.proofs.Common.{◌≡◌, length}
use Rattle.std.specs.Prelude.{All}
use Rattle.merge_bench.specs.Drawn.{IsWhole}
use Rattle.merge_bench.proofs.tasks.drawn_logs.Given as goal

abbrev pub invariant-loop-g : goal.invariant-loop-g
invariant-loop-g l = record {
  count : length l.logs.items ≡ l._g;
  whole : All (IsWhole l.formula) l.logs.items;
}
