use Rattle.lrat_lines.proofs.GapLemmas.{IsInToken}
use Rattle.lrat_lines.proofs.token.token_len.Given as goal

abbrev pub invariant-loop-i : goal.invariant-loop-i
invariant-loop-i l = IsInToken l.bytes l.i
