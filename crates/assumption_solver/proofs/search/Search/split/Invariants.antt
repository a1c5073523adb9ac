use Rattle.assumption_solver.proofs.Sweeps.{ChunkSays}
use Rattle.assumption_solver.proofs.search.Search.split.Given as goal

abbrev pub invariant-loop-lit : goal.invariant-loop-lit
invariant-loop-lit l = ChunkSays l.open l.query.chunk.now l.self.trail l.lit-index
