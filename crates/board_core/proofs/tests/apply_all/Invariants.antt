use Rattle.std.proofs.Common.{◌≡◌, drop}
use Rattle.board_core.specs.Boards.{after_all, AreLawful}
use Rattle.board_core.specs.Rules.{IsKept}
use Rattle.board_core.specs.Games.{AreCountable}
use Rattle.board_core.proofs.tests.apply_all.Given as goal

-- the events that are left are lawful, and lead to the same state
abbrev pub invariant-loop-event : goal.invariant-loop-event
invariant-loop-event l =
    (l.board.about ≡ l.fn.board.about)
    × AreLawful l.board.about l.board.state (drop l.event-index l.events)
    × AreCountable l.board.state (drop l.event-index l.events)
    × IsKept l.board.about l.board.state
    × (after_all l.board.state (drop l.event-index l.events) ≡ after_all l.fn.board.state l.events)
