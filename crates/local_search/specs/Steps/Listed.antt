-- The lists of clauses by literal: counted, summed up, filled.
use Rattle.std.specs.Prelude.{◌≡◌, ℕ, ◌+◌, ◌-◌, ◌*◌, ◌^◌, ◌<◌, ◌≤◌, nat_eq, if◌then◌else◌, List, length, All, take, drop, slice_index}
use Rattle.std.specs.List.{sum_by}
use Rattle.cnf_core.specs.Literals.{Literal, Literals, code_of}
use Rattle.cnf_core.specs.Formulas.{Cnf, literal_count, IsFormula}
use Rattle.local_search.specs.Cleaned.{clause_at, IsCleaned}

-- clauses within the limits, whose packed literals are less than m
pub record AreClauses (m : ℕ) (cs : List Literals) : Type 0 where
  pub fits : All (All (λ l. code_of l < m)) cs
  pub clauses : length cs ≤ 2 ^ 21
  pub literals : literal_count cs ≤ 2 ^ 23

-- w for the literal of a packed form, and 0 for every other one
abbrev pub hit : (code w : ℕ) → Literal → ℕ
hit code w l = if nat_eq (code_of l) code then w else 0

-- w for each time that it stands in a clause
abbrev pub hits : (code w : ℕ) → Literals → ℕ
hits code w c = sum_by (hit code w) c

-- w for one place, and 0 for every other one
abbrev pub at_place : (p w : ℕ) → ℕ → ℕ
at_place p w q = if nat_eq q p then w else 0

-- the list has the place of a clause as often as the literal stands in it
abbrev pub ListsPlaces : List Literals → ℕ → List ℕ → Type 0
ListsPlaces cs code places = (p w : ℕ) → sum_by (at_place p w) places ≡ hits code w (clause_at cs p)

-- how often a literal stands in all clauses, and before the literal j of the clause at a place
abbrev pub all_hits : List Literals → ℕ → ℕ
all_hits cs code = sum_by (hits code 1) cs

abbrev pub hits_before : List Literals → (place j : ℕ) → ℕ → ℕ
hits_before cs place j code = sum_by (hits code 1) (take place cs) + hits code 1 (take j (clause_at cs place))

-- the counts, and their sum, by the literals before the literal j of the clause at a place
pub record IsCounted (m : ℕ) (cs : List Literals) (place j : ℕ) (counts : List ℕ) : Type 0 where
  pub each : length counts ≡ m
  pub counted : (code : ℕ) → code < m → slice_index counts code ≡ hits_before cs place j code
  pub total : sum_by (λ n. n) counts ≡ literal_count (take place cs) + j

-- in place of each count stands the sum of all up to it
pub record IsSummed (counts ends : List ℕ) (total : ℕ) : Type 0 where
  pub each : length ends ≡ length counts
  pub summed : (i : ℕ) → i < length counts → slice_index ends i ≡ sum_by (λ n. n) (take (i + 1) counts)
  pub all : total ≡ sum_by (λ n. n) counts

-- the part of a list from a start to an end
abbrev pub between : (start end : ℕ) → List ℕ → List ℕ
between start end places = take (end - start) (drop start places)

-- the lists are filled from their ends on, by the literals before the literal j of the clause at a place
pub record IsFilled (m : ℕ) (cs : List Literals) (place j : ℕ) (starts places : List ℕ) : Type 0 where
  pub each : length starts ≡ m
  pub ends : ℕ → ℕ
  pub rises : (v : ℕ) → 0 < v → v < m → ends (v - 1) + all_hits cs v ≡ ends v
  pub within : (v : ℕ) → v < m → ends v ≤ length places
  pub starting : (v : ℕ) → v < m → slice_index starts v + hits_before cs place j v ≡ ends v
  pub below : (v p w : ℕ) → 0 < v → v < m → p < place
      → sum_by (at_place p w) (between (slice_index starts v) (ends v) places) ≡ hits v w (clause_at cs p)
  pub here : (v w : ℕ) → 0 < v → v < m
      → sum_by (at_place place w) (between (slice_index starts v) (ends v) places) ≡ hits v w (take j (clause_at cs place))
  pub above : (v p w : ℕ) → 0 < v → v < m → place < p
      → sum_by (at_place p w) (between (slice_index starts v) (ends v) places) ≡ 0

-- each literal's list lies between its start and the next one
pub record IsIndex (m : ℕ) (cs : List Literals) (starts places : List ℕ) : Type 0 where
  pub each : length starts ≡ m
  pub rises : (v : ℕ) → 0 < v → v + 1 < m → slice_index starts v ≤ slice_index starts (v + 1)
  pub within : (v : ℕ) → 0 < v → v + 1 < m → slice_index starts (v + 1) ≤ length places
  pub lists : (v : ℕ) → 0 < v → v + 1 < m
      → ListsPlaces cs v (between (slice_index starts v) (slice_index starts (v + 1)) places)

-- the formula's clauses with their lists
pub record HoldsTables (F : Cnf) (cs : List Literals) (starts places : List ℕ) (literals : ℕ) : Type 0 where
  pub limits : IsFormula F
  pub cleaned : IsCleaned F cs
  pub index : IsIndex (2 * F.vars + 3) cs starts places
  pub total : literals ≡ literal_count cs
