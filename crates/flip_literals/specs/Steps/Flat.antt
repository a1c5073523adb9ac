-- Clauses that lie one behind the other.
use Rattle.std.specs.Prelude.{◌≡◌, ℕ, ◌+◌, ◌<◌, ◌≤◌, List, [], length, slice_index, slice_index_or}
use Rattle.cnf_core.specs.Literals.{Literal, Literals}

-- the clause lies from its start to the next one
pub record LiesAt (c : Literals) (lits : Literals) (start end : ℕ) : Type 0 where
  pub ends : end ≡ start + length c
  pub within : end ≤ length lits
  pub same : (k : ℕ) (d : Literal) → k < length c → slice_index_or lits (start + k) d ≡ slice_index_or c k d

pub record IsFlat (cs : List Literals) (starts : List ℕ) (lits : Literals) : Type 0 where
  pub each : length starts ≡ length cs + 1
  pub last : slice_index starts (length cs) ≡ length lits
  pub lies : (p : ℕ) → p < length cs
      → LiesAt (slice_index_or cs p []) lits (slice_index starts p) (slice_index starts (p + 1))
