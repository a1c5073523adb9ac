-- The making of the lists: counted, summed up, filled.
use Rattle.std.specs.Prelude.{◌≡◌, ℕ, ◌+◌, ◌-◌, ◌<◌, ◌≤◌, ◌⊎◌, ◌&&◌, nat_eq, not, if◌then◌else◌, List, length, Contains, take, slice_index}
use Rattle.std.specs.List.{sum_by}
use Rattle.cnf_core.specs.Literals.{Literal, Literals, Assignment, value_of, is_true}
use Rattle.cnf_core.specs.Formulas.{Cnf, IsFormula, true_literal, literal_count}
use Rattle.flip_literals.specs.declared.listing.Lists.{Lists}
use Rattle.flip_literals.specs.Listings.{Listing, clause_at, StandsAt, ListsPlaces}

-- 1 for the variable's literal that the assignment makes true, and 0 for every other one
abbrev pub hit : Assignment → ℕ → Literal → ℕ
hit a v l = if nat_eq l.var v && is_true a l then 1 else 0

-- how often it stands in a clause
abbrev pub hits : Assignment → ℕ → Literals → ℕ
hits a v c = sum_by (hit a v) c

-- how often it stands in all clauses
abbrev pub all_hits : Cnf → Assignment → ℕ → ℕ
all_hits F a v = sum_by (hits a v) F.clauses

-- how often it stands before the literal j of the clause at a place
abbrev pub hits_before : Cnf → Assignment → (place j : ℕ) → ℕ → ℕ
hits_before F a place j v = sum_by (hits a v) (take place F.clauses) + hits a v (take j (clause_at F place))

-- the counts, and their sum, by the literals before the literal j of the clause at a place
pub record IsCounted (F : Cnf) (a : Assignment) (place j : ℕ) (counts : List ℕ) : Type 0 where
  pub each : length counts ≡ F.vars + 2
  pub counted : (v : ℕ) → v < F.vars + 2 → slice_index counts v ≡ hits_before F a place j v
  pub total : sum_by (λ n. n) counts ≤ literal_count (take place F.clauses) + j

-- in place of each count stands the sum of all up to it
pub record IsSummed (counts ends : List ℕ) (total : ℕ) : Type 0 where
  pub each : length ends ≡ length counts
  pub summed : (i : ℕ) → i < length counts → slice_index ends i ≡ sum_by (λ n. n) (take (i + 1) counts)
  pub all : total ≡ sum_by (λ n. n) counts

-- the place stands in the variable's part of the lists
pub record IsListed (places : List ℕ) (start end place : ℕ) : Type 0 where
  pub at : ℕ
  pub low : start ≤ at
  pub high : at < end
  pub is : slice_index places at ≡ place

-- the lists are filled from their ends on, by the literals before the literal j of the clause at a place
pub record IsFilled (F : Cnf) (a : Assignment) (place j : ℕ) (starts places : List ℕ) : Type 0 where
  pub each : length starts ≡ F.vars + 2
  pub ends : ℕ → ℕ
  pub rises : (v : ℕ) → 0 < v → v ≤ F.vars + 1 → ends (v - 1) + all_hits F a v ≡ ends v
  pub within : (v : ℕ) → v < F.vars + 2 → ends v ≤ length places
  pub starting : (v : ℕ) → v < F.vars + 2 → slice_index starts v + hits_before F a place j v ≡ ends v
  pub sound : (v k : ℕ) → 0 < v → v ≤ F.vars → slice_index starts v ≤ k → k < ends v → StandsAt F a v (slice_index places k)
  pub before : (v p : ℕ) → 0 < v → v ≤ F.vars → p < place → StandsAt F a v p
      → IsListed places (slice_index starts v) (ends v) p
  pub present : (v : ℕ) → 0 < v → v ≤ F.vars → Contains (take j (clause_at F place)) (true_literal a v)
      → IsListed places (slice_index starts v) (ends v) place

-- each variable's list lies between its start and the next one, and has just the places of its literal
pub record IsIndex (F : Cnf) (a : Assignment) (starts places : List ℕ) : Type 0 where
  pub limits : IsFormula F
  pub values : length a ≡ F.vars
  pub each : length starts ≡ F.vars + 2
  pub rises : (v : ℕ) → 0 < v → v ≤ F.vars → slice_index starts v ≤ slice_index starts (v + 1)
  pub within : (v : ℕ) → 0 < v → v ≤ F.vars → slice_index starts (v + 1) ≤ length places
  pub sound : (v k : ℕ) → 0 < v → v ≤ F.vars → slice_index starts v ≤ k → k < slice_index starts (v + 1)
      → StandsAt F a v (slice_index places k)
  pub whole : (v p : ℕ) → 0 < v → v ≤ F.vars → StandsAt F a v p
      → IsListed places (slice_index starts v) (slice_index starts (v + 1)) p

-- the variable's list lies within
pub record HasPart (starts places : List ℕ) (v : ℕ) : Type 0 where
  pub each : v + 1 < length starts
  pub rises : slice_index starts v ≤ slice_index starts (v + 1)
  pub within : slice_index starts (v + 1) ≤ length places

-- the list has the places of the variable's literal, whichever assignment the lists are for
abbrev pub IsPart : (starts places : List ℕ) → ℕ → List ℕ → Type 0
IsPart starts places v part = (F : Cnf) (a : Assignment) → IsIndex F a starts places → 0 < v → v ≤ F.vars
    → ListsPlaces (record { formula = F; first = a }) v part

-- each value is the opposite one
pub record IsOpposite (a b : Assignment) : Type 0 where
  pub each : length b ≡ length a
  pub opposite : (v : ℕ) → 0 < v → v ≤ length a → value_of b v ≡ not (value_of a v)

-- the lists are for the literals that an assignment makes false
pub record IsOtherIndex (F : Cnf) (a : Assignment) (lists : Lists) : Type 0 where
  pub second : Assignment
  pub opposite : IsOpposite a second
  pub index : IsIndex F second lists.starts.items lists.places.items

pub record AreIndexes (F : Cnf) (a : Assignment) (own others : Lists) : Type 0 where
  pub own_index : IsIndex F a own.starts.items own.places.items
  pub other_index : IsOtherIndex F a others

-- the list has just the places of the variable's literal that the first assignment makes false
pub record ListsOthers (o : Listing) (v : ℕ) (places : List ℕ) : Type 0 where
  pub second : Assignment
  pub opposite : IsOpposite o.first second
  pub lists : ListsPlaces (record { formula = o.formula; first = second }) v places

-- so many steps on from a place, in a list of so many that goes on from its first
pub record IsAround (start step count at : ℕ) : Type 0 where
  pub within : at < count
  pub is : (at ≡ start + step) ⊎ (at + count ≡ start + step)
