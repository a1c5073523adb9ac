use Rattle.std.proofs.Common.{◌≡◌, ℕ, suc, ◌+◌, ◌*◌, ◌<◌}
use Rattle.std.specs.Int.{bit_at}
use Rattle.board_core.specs.Subjects.{about, Opposed}
use Rattle.table_cases.specs.Cases.{IsOne}
use Rattle.table_cases.proofs.may_drop.Given as goal

-- each variable of the bits so far may be taken
abbrev pub invariant-loop-bit : goal.invariant-loop-bit
invariant-loop-bit l =
    (i : ℕ) → i < l.bit → bit_at l.mask i ≡ 1
    → IsOne (about l.case.formula l.case.phases) (Opposed (about l.case.formula l.case.phases)) (suc (32 * l.group + i))
