-- What was kept of the literals read so far.
use Rattle.std.proofs.Common.{length, take}
use Rattle.local_search.specs.Steps.Kept.{IsKept}
use Rattle.local_search.proofs.clean.clean.Given as goal

abbrev pub invariant-loop-lit : goal.invariant-loop-lit
invariant-loop-lit l = IsKept (length l.fn.seen.items) l.round (take l.lit-index l.clause) l.seen.items l.kept.items
