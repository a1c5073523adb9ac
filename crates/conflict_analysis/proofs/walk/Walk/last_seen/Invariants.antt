use Rattle.conflict_analysis.specs.Steps.Walks.{is_seen}
use Rattle.conflict_analysis.proofs.Walking.{IsLooking}
use Rattle.conflict_analysis.proofs.walk.Walk.last_seen.Given as goal

abbrev pub invariant-loop-place : goal.invariant-loop-place
invariant-loop-place l = IsLooking l.trail.entries (is_seen l.self) l.end l.place

abbrev pub decreases-loop-place : goal.decreases-loop-place
decreases-loop-place l = l.place
