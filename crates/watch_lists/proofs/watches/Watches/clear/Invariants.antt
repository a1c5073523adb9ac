use Rattle.watch_lists.proofs.Viewed.{lists_in, AreClear}
use Rattle.watch_lists.proofs.watches.Watches.clear.Given as goal

abbrev pub invariant-loop-list : goal.invariant-loop-list
invariant-loop-list l = AreClear (lists_in l.list-items) l.list-index
