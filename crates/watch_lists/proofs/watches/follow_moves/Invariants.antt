-- The watches before the place are done, and those from it on are as they were.
use Rattle.watch_lists.proofs.Moving.{IsMoving}
use Rattle.watch_lists.proofs.watches.follow_moves.Given as goal

abbrev pub invariant-loop-at : goal.invariant-loop-at
invariant-loop-at l = IsMoving l.moves l.initial.list.items l.list.items l.at l.kept
