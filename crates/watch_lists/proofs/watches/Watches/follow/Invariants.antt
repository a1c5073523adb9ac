-- The lists before the place are done, and those from it on are as they were.
use Rattle.watch_lists.proofs.Viewed.{lists_in}
use Rattle.watch_lists.proofs.Moving.{AreMoving}
use Rattle.watch_lists.proofs.watches.Watches.follow.Given as goal

abbrev pub invariant-loop-list : goal.invariant-loop-list
invariant-loop-list l = AreMoving l.moves (lists_in l.initial.list-items) (lists_in l.list-items) l.list-index
