use Rattle.clause_arena.specs.Entries.{entry_at}
use Rattle.conflict_analysis.proofs.Marking.{IsMarking}
use Rattle.conflict_analysis.proofs.walk.Walk.mark_clause.Given as goal

abbrev pub invariant-loop-lit : goal.invariant-loop-lit
invariant-loop-lit l = IsMarking l.trail (entry_at l.arena l.r).lits l.lit-index l.initial.self l.self
