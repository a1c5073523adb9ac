use Rattle.search_policy.specs.Steps.Candidates.{AreReasons}
use Rattle.search_policy.proofs.removals.reasons.Given as goal

abbrev pub invariant-loop-place : goal.invariant-loop-place
invariant-loop-place l = AreReasons l.arena l.trail l.place l.marks.items
