use Rattle.std.proofs.Common.{◌≡◌, drop}
use Rattle.bone_check.specs.Proving.{is_skipped}
use Rattle.bone_check.proofs.line.is_skipped.Given as goal

-- what is left says whether the line is skipped
abbrev pub invariant-loop-byte : goal.invariant-loop-byte
invariant-loop-byte l = is_skipped (drop l.byte-index l.bytes) ≡ is_skipped l.bytes
