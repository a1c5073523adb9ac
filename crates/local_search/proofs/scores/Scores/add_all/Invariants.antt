-- The sizes stay.
use Rattle.std.proofs.Common.{◌≡◌}
use Rattle.local_search.proofs.scores.Scores.add_all.Given as goal

abbrev pub invariant-loop-lit : goal.invariant-loop-lit
invariant-loop-lit l = l.self ≡ l.fn.self
