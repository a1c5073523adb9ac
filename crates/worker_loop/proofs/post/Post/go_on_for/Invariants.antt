use Rattle.worker_loop.proofs.Slices.{IsGoingFor}
use Rattle.worker_loop.proofs.post.Post.go_on_for.Given as goal

abbrev pub invariant-loop-slice : goal.invariant-loop-slice
invariant-loop-slice g l = IsGoingFor l.initial.self l.self l.conflicts l.left l.slice

abbrev pub decreases-loop-slice : goal.decreases-loop-slice
decreases-loop-slice g l = l.left
