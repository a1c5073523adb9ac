-- All variables that were passed have a sign.
use Rattle.std.proofs.Common.{◌≢◌, ℕ, pos, ◌+◌, ◌-◌, ◌<◌, ◌≤◌, vec_len}
use Rattle.trail_core.specs.Steps.Tables.{sign_at}
use Rattle.trail_core.proofs.trail.next_free.Given as goal

abbrev pub invariant-loop-var : goal.invariant-loop-var
invariant-loop-var l =
    (l.from ≤ l.var) × (l.var ≤ vec_len l.signs + 1) × ((u : ℕ) → l.from ≤ u → u < l.var → sign_at l.signs.items u ≢ pos 0)

abbrev pub decreases-loop-var : goal.decreases-loop-var
decreases-loop-var l = vec_len l.signs + 1 - l.var
