-- The clauses that a search is made for.
use Rattle.std.specs.Prelude.{◌≢◌, ℕ, ◌≤◌, length, AllPairs}
use Rattle.cnf_core.specs.Literals.{Literals}
use Rattle.clause_arena.specs.Entries.{Entries, IsLive}
use Rattle.watch_lists.specs.Clauses.{IsLong}

-- two literals or more, each of another variable
pub record IsPlain (c : Literals) : Type 0 where
  pub long : 2 ≤ length c
  pub each_once : AllPairs (λ k l. k.var ≢ l.var) c

-- every live clause has two literals or more
abbrev pub AreLong : Entries → Type 0
AreLong a = (r : ℕ) → IsLive a r → IsLong a r
