-- The values so far are the opposite ones.
use Rattle.std.proofs.Common.{◌≡◌, ℕ, ◌<◌, length}
use Rattle.std.specs.Prelude.{not}
use Rattle.cnf_core.specs.Literals.{value_of}
use Rattle.flip_literals.proofs.occurrences.opposites.Given as goal

abbrev pub invariant-loop-var : goal.invariant-loop-var
invariant-loop-var l = record {
  each : length l.values ≡ length l.first;
  opposite : (v : ℕ) → 0 < v → v < l.var → value_of l.values v ≡ not (value_of l.first v);
}
