-- How far a token goes.
use Rattle.std.proofs.Common.{◌≡◌, ℕ, List, ◌++◌, take, drop}
use Rattle.lrat_lines.specs.Tokens.{before_gap, behind_gaps}

-- the bytes before the place are in the token, and no gap is among them
pub record IsInToken (bs : List ℕ) (i : ℕ) : Type 0 where
  pub before : before_gap bs ≡ take i bs ++ before_gap (drop i bs)
  pub behind : behind_gaps bs ≡ behind_gaps (drop i bs)
