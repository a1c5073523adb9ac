use Rattle.std.proofs.Common.{◌≡◌, ◌++◌, ◌-◌, true, false, replicate}
use Rattle.board_core.proofs.tests.phases.Given as goal

-- so many are true
abbrev pub invariant-loop-var : goal.invariant-loop-var
invariant-loop-var l = l.values ≡ replicate (l.var - 1) true ++ replicate (34 - l.var) false
