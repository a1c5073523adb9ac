-- How the scores lie.
use Rattle.std.specs.Prelude.{◌≡◌, ℕ, ◌^◌, ◌≤◌, Bool, List, length}
use Rattle.local_search.specs.Scored.{Sizes}

abbrev pub sizes : (vars clauses : ℕ) → Sizes
sizes vars clauses = record { vars = vars; clauses = clauses }

-- an entry for each variable
pub record AreScores (n : ℕ) (soft : List ℕ) (wished : List Bool) (flipped : List ℕ) (good unwon : ℕ) : Type 0 where
  pub limit : n ≤ 2 ^ 20
  pub soft_each : length soft ≡ n
  pub wished_each : length wished ≡ n
  pub flipped_each : length flipped ≡ n
  pub good_each : good ≡ n
  pub unwon_each : unwon ≡ n
