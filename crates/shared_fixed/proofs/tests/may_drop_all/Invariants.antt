use Rattle.std.proofs.Common.{All, take}
use Rattle.board_core.specs.Subjects.{about, Opposed}
use Rattle.board_core.specs.Boards.{EachOf}
use Rattle.shared_fixed.proofs.tests.may_drop_all.Given as goal

-- the masks so far may be dropped
abbrev pub invariant-loop-mask : goal.invariant-loop-mask
invariant-loop-mask l =
    All (EachOf (about l.case.formula l.case.phases) (Opposed (about l.case.formula l.case.phases)) 0) (take l.mask-index l.masks)
