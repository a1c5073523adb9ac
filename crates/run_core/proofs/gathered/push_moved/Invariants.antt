use Rattle.std.proofs.Common.{◌≡◌, ◌++◌, map, take}
use Rattle.run_core.specs.Steps.Gathers.{moved}
use Rattle.run_core.proofs.gathered.push_moved.Given as goal

abbrev pub invariant-loop-other : goal.invariant-loop-other
invariant-loop-other l = l.drops.items ≡ l.fn.drops.items ++ map (moved l.base) (take l.other-index l.others)
