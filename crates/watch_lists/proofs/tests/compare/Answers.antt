use Rattle.std.proofs.Common.{arith}
use Rattle.watch_lists.proofs.Kept.{ready_backtracked}
use Rattle.watch_lists.proofs.tests.compare.Goals as goal

pub descend-requires-2 : goal.descend-requires-2
descend-requires-2 g c =
    ready_backtracked c.descend.new.arena c.descend.new.watches c.descend.new.trail c.backtrack.new.self 0
    c.in_ok-descend.ensures (omega arith) c.backtrack.ensures
