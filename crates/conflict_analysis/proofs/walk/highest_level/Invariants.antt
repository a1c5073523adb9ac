use Rattle.std.proofs.Common.{take}
use Rattle.conflict_analysis.specs.Answers.{IsHighest}
use Rattle.conflict_analysis.proofs.walk.highest_level.Given as goal

abbrev pub invariant-loop-lit : goal.invariant-loop-lit
invariant-loop-lit l = IsHighest l.trail.entries (take l.lit-index l.lits) l.highest
