use Rattle.search_policy.specs.Steps.Candidates.{AreCandidates}
use Rattle.search_policy.proofs.removals.candidates.Given as goal

abbrev pub invariant-loop-place : goal.invariant-loop-place
invariant-loop-place l = AreCandidates l.arena l.marks l.place l.found.items
