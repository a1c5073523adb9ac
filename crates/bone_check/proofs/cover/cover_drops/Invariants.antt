use Rattle.std.proofs.Common.{ℕ, ◌<◌, ◌≤◌, ◌≡◌, ◌||◌, ◌==◌, length, take}
use Rattle.std.specs.List.{list_any}
use Rattle.cnf_core.specs.Literals.{value_of}
use Rattle.bone_check.proofs.cover.cover_drops.Given as goal

-- what the lines so far mark
abbrev pub invariant-loop-drop : goal.invariant-loop-drop
invariant-loop-drop l = record {
  same : length l.covered ≡ length l.fn.covered;
  marked : (v : ℕ) → 0 < v → v ≤ length l.fn.covered
      → value_of l.covered v ≡ (value_of l.fn.covered v || list_any (λ d. d.lit.var == v) (take l.drop-index l.drops));
}
