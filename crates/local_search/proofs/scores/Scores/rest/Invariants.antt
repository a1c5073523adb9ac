-- The sizes stay.
use Rattle.std.proofs.Common.{◌≡◌}
use Rattle.local_search.proofs.scores.Scores.rest.Given as goal

abbrev pub invariant-loop-place : goal.invariant-loop-place
invariant-loop-place l = l.self ≡ l.fn.self
