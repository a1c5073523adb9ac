use Rattle.std.proofs.Common.{◌≡◌, drop}
use Rattle.lrat_lines.specs.Tokens.{tokens}
use Rattle.lrat_lines.proofs.token.skip_gaps.Given as goal

-- the bytes so far are in no token
abbrev pub invariant-loop-i : goal.invariant-loop-i
invariant-loop-i l = tokens (drop l.i l.bytes) ≡ tokens l.bytes
