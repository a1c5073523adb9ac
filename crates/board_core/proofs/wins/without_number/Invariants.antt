use Rattle.std.proofs.Common.{◌≡◌, take}
use Rattle.board_core.specs.Boards.{without_number}
use Rattle.board_core.proofs.wins.without_number.Given as goal

-- the rest of the numbers so far
abbrev pub invariant-loop-other : goal.invariant-loop-other
invariant-loop-other l = l.rest.items ≡ without_number l.number (take l.other-index l.numbers)
