use Rattle.std.proofs.Common.{◌≡◌, ◌*◌, suc}
use Rattle.board_core.specs.Words.{vars_from}
use Rattle.board_core.proofs.wins.vars_of.Given as goal

-- the variables of the bits so far
abbrev pub invariant-loop-bit : goal.invariant-loop-bit
invariant-loop-bit l = l.vars.items ≡ vars_from l.bit (suc (32 * l.group)) l.mask
