use Rattle.clause_arena.specs.Entries.{entry_at}
use Rattle.conflict_analysis.proofs.Walking.{IsAdding}
use Rattle.conflict_analysis.proofs.walk.Walk.add_clause.Given as goal

abbrev pub invariant-loop-lit : goal.invariant-loop-lit
invariant-loop-lit l = IsAdding l.trail (entry_at l.arena l.r).lits l.lit-index l.initial.self l.self
