-- The entries from the level's start on are taken away one by one.
use Rattle.std.proofs.Common.{◌≡◌, length, vec_capacity}
use Rattle.trail_core.specs.Steps.Tables.{laid_entries}
use Rattle.trail_core.proofs.Backtracked.{IsCutting}
use Rattle.trail_core.proofs.trail.Trail.backtrack.Given as goal

abbrev pub invariant-loop-self : goal.invariant-loop-self
invariant-loop-self l = record {
  cutting : IsCutting l.self-inside.vars (laid_entries l.initial.self-inside.origins.items l.initial.self-inside.lits.items) l.start
      (laid_entries l.self-inside.origins.items l.self-inside.lits.items) l.self-inside.origins.items l.self-inside.truth.items
      l.self-inside.signs.items l.self-inside.free;
  origins : l.self-inside.origins ≡ l.initial.self-inside.origins;
  starts : l.self-inside.starts ≡ l.initial.self-inside.starts;
  gone : l.self-inside.gone ≡ l.initial.self-inside.gone;
  vars : l.self-inside.vars ≡ l.initial.self-inside.vars;
  room : vec_capacity l.self-inside.lits ≡ vec_capacity l.initial.self-inside.lits;
}

abbrev pub decreases-loop-self : goal.decreases-loop-self
decreases-loop-self l = length l.self-inside.lits.items
