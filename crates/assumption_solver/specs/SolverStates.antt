-- What is seen of a solver.
use Rattle.std.specs.Prelude.{ℕ, Bool}
use Rattle.lrat_log.specs.Entries.{Recorded}

-- its log, whether it has answered want of memory, and how many root literals can be read off
pub record SolverState : Type 0 where
  pub log : Recorded
  pub dead : Bool
  pub roots : ℕ
