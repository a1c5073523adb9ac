-- A watch as contracts see it.
use Rattle.std.specs.Prelude.{ℕ, Bool}
use Rattle.cnf_core.specs.Literals.{Literal}

-- a clause that watches a literal, another of its literals, and whether it has just two
pub record Watcher : Type 0 where
  pub clause : ℕ
  pub blocker : Literal
  pub binary : Bool
