-- Which learnt clauses a search lets go.
use Rattle.std.specs.Prelude.{◌≡◌, ◌⊎◌, ℕ, ◌<◌, ◌/◌, true, List, length, take, All, AllPairs, Contains}
use Rattle.clause_arena.specs.Entries.{Entries, entry_at, len_of, IsLive}
use Rattle.trail_core.specs.declared.entry.Reason.TheVariants.{Clause as ByClause}
use Rattle.trail_core.specs.Trails.{TrailState, assigned_at}

-- the clause is the reason of some entry of the trail
pub record IsReason (t : TrailState) (r : ℕ) : Type 0 where
  pub place : ℕ
  pub within : place < length t.entries
  pub reason : (assigned_at t.entries place).reason ≡ ByClause r

-- a live learnt clause that is no reason
pub record IsRemovable (a : Entries) (t : TrailState) (r : ℕ) : Type 0 where
  pub live : IsLive a r
  pub learnt : (entry_at a r).learnt ≡ true
  pub no_reason : IsReason t r → ⊥

-- the longer clause goes before the shorter one, and of two with the same length the older one
abbrev pub GoesBefore : Entries → ℕ → ℕ → Type 0
GoesBefore a r s = (len_of a s < len_of a r) ⊎ ((len_of a r ≡ len_of a s) × (r < s))

-- all the clauses that may go, in the order in which they go
pub record IsRanked (a : Entries) (t : TrailState) (rs : List ℕ) : Type 0 where
  pub removable : All (IsRemovable a t) rs
  pub all : (r : ℕ) → IsRemovable a t r → Contains rs r
  pub order : AllPairs (GoesBefore a) rs

-- the first half of them, rounded down
pub record IsChosen (a : Entries) (t : TrailState) (rs : List ℕ) : Type 0 where
  pub ranked : List ℕ
  pub is_ranked : IsRanked a t ranked
  pub half : rs ≡ take (length ranked / 2) ranked
