-- For how many variables and clauses there are scores.
use Rattle.std.specs.Prelude.{◌≡◌, ℕ, length}
use Rattle.local_search.specs.Cleaned.{Tabled, IsTabled}

pub record Sizes : Type 0 where
  pub vars : ℕ
  pub clauses : ℕ

-- the scores are for these tables
pub record IsScored (t : Tabled) (s : Sizes) : Type 0 where
  pub tabled : IsTabled t
  pub vars : s.vars ≡ t.formula.vars
  pub clauses : s.clauses ≡ length t.clauses
