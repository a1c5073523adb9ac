use Rattle.std.proofs.Common.{ℕ, ◌<◌, ◌≤◌, ◌≡◌, ◌||◌, ◌==◌, length, take}
use Rattle.std.specs.List.{list_any}
use Rattle.cnf_core.specs.Literals.{value_of}
use Rattle.bone_check.proofs.cover.cover_literals.Given as goal

-- what the literals so far mark
abbrev pub invariant-loop-lit : goal.invariant-loop-lit
invariant-loop-lit l = record {
  same : length l.covered ≡ length l.fn.covered;
  marked : (v : ℕ) → 0 < v → v ≤ length l.fn.covered
      → value_of l.covered v ≡ (value_of l.fn.covered v || list_any (λ k. k.var == v) (take l.lit-index l.fixed));
}
