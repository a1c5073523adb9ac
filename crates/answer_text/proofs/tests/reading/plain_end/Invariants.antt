use Rattle.std.proofs.Common.{◌≤◌}
use Rattle.answer_text.proofs.tests.reading.plain_end.Given as goal

-- the line so far begins at or before this byte
abbrev pub invariant-loop-i : goal.invariant-loop-i
invariant-loop-i l = l.from ≤ l.i
