-- The literals of one clause that are kept, and the stamps by which it is known which they are.
use Rattle.std.specs.Prelude.{◌≡◌, ◌≢◌, ℕ, ◌+◌, ◌<◌, ◌≤◌, ◌⊎◌, Bool, true, false, IsTrue, List, [], ◌∷◌, ◌++◌, length, AllPairs, Contains, slice_index, slice_set}
use Rattle.cnf_core.specs.Literals.{Literal, Literals, Assignment, negated, code_of, clause_true}

-- both literals of the variable have a place among so many
pub record Fits (n : ℕ) (l : Literal) : Type 0 where
  pub own : code_of l < n
  pub other : code_of (negated l) < n

-- a stamp for each of so many packed literals, each below a bound
pub record AreStamps (bound n : ℕ) (seen : List ℕ) : Type 0 where
  pub each : length seen ≡ n
  pub low : (code : ℕ) → slice_index seen code < bound

-- the clause with each literal once, which has no literal and its negation
pub record HasSame (c k : Literals) : Type 0 where
  pub same : (a : Assignment) → clause_true a k ≡ clause_true a c
  pub sound : (l : Literal) → Contains k l → Contains c l
  pub apart : AllPairs (λ l m. l.var ≢ m.var) k
  pub shorter : length k ≤ length c

-- either so, or the clause is true whatever the values are
abbrev pub IsCleanOf : Literals → Literals → Bool → Type 0
IsCleanOf c k true = HasSame c k
IsCleanOf c k false = (a : Assignment) → IsTrue (clause_true a c)

-- what was kept of the literals read so far
pub record IsKept (n round : ℕ) (read : Literals) (seen : List ℕ) (kept : Literals) : Type 0 where
  pub stamps : AreStamps (round + 1) n seen
  pub stamped : (l : Literal) → slice_index seen (code_of l) ≡ round → Contains kept l
  pub marked : (l : Literal) → Contains kept l → slice_index seen (code_of l) ≡ round
  pub sound : (l : Literal) → Contains kept l → Contains read l
  pub whole : (l : Literal) → Contains read l → Contains kept l
  pub apart : AllPairs (λ l m. l.var ≢ m.var) kept
  pub shorter : length kept ≤ length read

-- one literal more, which was kept or is kept now
pub record WasKept (l : Literal) (round : ℕ) (seen : List ℕ) (kept : Literals) (seen' : List ℕ) (kept' : Literals) : Type 0 where
  pub stamp : slice_index seen (code_of l) ≡ round
  pub same_stamps : seen' ≡ seen
  pub same : kept' ≡ kept

pub record IsPut (l : Literal) (round : ℕ) (seen : List ℕ) (kept : Literals) (seen' : List ℕ) (kept' : Literals) : Type 0 where
  pub fresh : slice_index seen (code_of l) ≢ round
  pub stamps : seen' ≡ slice_set seen (code_of l) round
  pub more : kept' ≡ kept ++ l ∷ []

abbrev pub IsKeptToo : Literal → ℕ → List ℕ → Literals → List ℕ → Literals → Type 0
IsKeptToo l round seen kept seen' kept' = WasKept l round seen kept seen' kept' ⊎ IsPut l round seen kept seen' kept'
