use Rattle.std.proofs.Common.{◌≢◌, ℕ, ◌-◌, ◌<◌, slice_index_or}
use Rattle.clause_arena.specs.Entries.{no_literal}
use Rattle.assumption_solver.proofs.loading.make_plain.Given as goal

-- no two neighbours have one variable so far
abbrev pub invariant-loop-i : goal.invariant-loop-i
invariant-loop-i l = (k : ℕ) → 0 < k → k < l.i
    → (slice_index_or l.lits.items (k - 1) no_literal).var ≢ (slice_index_or l.lits.items k no_literal).var
