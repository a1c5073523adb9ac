use Rattle.std.proofs.Common.{◌≡◌, ◌≤◌, true, take}
use Rattle.std.specs.List.{list_all}
use Rattle.std.specs.Char.{is_ascii_digit}
use Rattle.cnf_core.specs.Spelling.{digits_value}
use Rattle.answer_text.proofs.read.number.Given as goal

-- the bytes so far are digits, and the number is what they write
abbrev pub invariant-loop-byte : goal.invariant-loop-byte
invariant-loop-byte l =
    (l.number ≡ digits_value (take l.byte-index l.bytes))
    × (list_all is_ascii_digit (take l.byte-index l.bytes) ≡ true)
    × (l.number ≤ l.vars)
