-- The marks are those of the clauses read so far.
use Rattle.std.proofs.Common.{take, length}
use Rattle.flip_literals.proofs.Marked.{AreMarked}
use Rattle.flip_literals.proofs.flips.critical.Given as goal

abbrev pub invariant-loop-clause : goal.invariant-loop-clause
invariant-loop-clause l = AreMarked (length l.model) l.model (take l.clause-index l.clause-items) l.marks
