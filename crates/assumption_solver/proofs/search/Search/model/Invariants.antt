use Rattle.std.proofs.Common.{◌≡◌, ℕ, ◌<◌, true, length}
use Rattle.cnf_core.specs.Literals.{is_true}
use Rattle.trail_core.specs.Trails.{assigned_at}
use Rattle.assumption_solver.proofs.search.Search.model.Given as goal

abbrev pub invariant-loop-place : goal.invariant-loop-place
invariant-loop-place l = record {
  count : length l.model ≡ l.self.trail.vars;
  agrees : (k : ℕ) → k < l.place → is_true l.model (assigned_at l.self.trail.entries k).lit ≡ true;
}
