-- The state of a search, and its steps.
use Rattle.std.specs.Prelude.{◌≡◌, ℕ, ◌+◌, ◌^◌, ◌<◌, ◌≤◌, false, IsTrue, List, length, All}
use Rattle.std.specs.List.{sum_by}
use Rattle.cnf_core.specs.Literals.{Literal, Literals, Assignment, value_of, is_true}
use Rattle.local_search.specs.Cleaned.{Tabled}
use Rattle.local_search.specs.Tallies.{tally_at, AreTallies}
use Rattle.local_search.specs.Steps.Listed.{at_place}
use Rattle.local_search.specs.Searches.{IsSearchOf}
use Rattle.local_search.specs.declared.counts.Tally.{Tally}
use Rattle.local_search.specs.declared.search.LocalSearch.{LocalSearch}

-- each clause has its tally
pub record IsState (t : Tabled) (s : LocalSearch) : Type 0 where
  pub sizes : IsSearchOf t s
  pub tallies : AreTallies t.clauses s.values s.counts.tallies

-- the held variables keep their values
pub record Keeps (held a b : Assignment) : Type 0 where
  pub each : length b ≡ length a
  pub kept : (v : ℕ) → 0 < v → v ≤ length a → IsTrue (value_of held v) → value_of b v ≡ value_of a v

-- a search that went on
pub record IsOnward (t : Tabled) (s s' : LocalSearch) : Type 0 where
  pub state : IsState t s'
  pub held : s'.held ≡ s.held
  pub kept : Keeps s.held s.values s'.values

-- the variable may be flipped
pub record IsFree (n : ℕ) (held : Assignment) (v : ℕ) : Type 0 where
  pub low : 0 < v
  pub high : v ≤ n
  pub free : value_of held v ≡ false

-- each time that a place is listed, its clause has a literal of the variable more
pub record AddsPlaces (var : ℕ) (places : List ℕ) (less more : List Tally) : Type 0 where
  pub each : length less ≡ length more
  pub count : (p : ℕ) → p < length less → (tally_at less p).count + sum_by (at_place p 1) places ≡ (tally_at more p).count
  pub sum : (p : ℕ) → p < length less → (tally_at less p).sum + sum_by (at_place p var) places ≡ (tally_at more p).sum

-- the clauses have as many of them
pub record CanLower (var : ℕ) (places : List ℕ) (tallies : List Tally) : Type 0 where
  pub inside : All (λ p. p < length tallies) places
  pub count : (p : ℕ) → p < length tallies → sum_by (at_place p 1) places ≤ (tally_at tallies p).count
  pub sum : (p : ℕ) → p < length tallies → sum_by (at_place p var) places ≤ (tally_at tallies p).sum

-- there is room for them
pub record CanRaise (var : ℕ) (places : List ℕ) (tallies : List Tally) : Type 0 where
  pub inside : All (λ p. p < length tallies) places
  pub count : (p : ℕ) → p < length tallies → (tally_at tallies p).count + sum_by (at_place p 1) places < 2 ^ 32
  pub sum : (p : ℕ) → p < length tallies → (tally_at tallies p).sum + sum_by (at_place p var) places < 2 ^ 64

-- the literals read so far are held false, and what is fixed is held as it was
pub record IsHeld (n : ℕ) (start fixed : Assignment) (read : Literals) (held values : Assignment) : Type 0 where
  pub each : length values ≡ n
  pub marks : length held ≡ n
  pub still : (v : ℕ) → 0 < v → v ≤ n → IsTrue (value_of fixed v) → IsTrue (value_of held v)
  pub begins : (v : ℕ) → 0 < v → v ≤ n → IsTrue (value_of fixed v) → value_of values v ≡ value_of start v
  pub frozen : All (λ l. IsTrue (value_of held l.var)) read
  pub fails : All (λ l. is_true values l ≡ false) read

-- the literal is false and held, and nothing else changed
pub record HoldsToo (l : Literal) (held values held' values' : Assignment) : Type 0 where
  pub fails : is_true values' l ≡ false
  pub marked : IsTrue (value_of held' l.var)
  pub still : (v : ℕ) → 0 < v → v ≤ length held → IsTrue (value_of held v) → IsTrue (value_of held' v)
  pub kept : (v : ℕ) → 0 < v → v ≤ length held → IsTrue (value_of held v) → value_of values' v ≡ value_of values v

-- only the generator went on
pub record IsSameButDraws (s s' : LocalSearch) : Type 0 where
  pub values : s'.values ≡ s.values
  pub held : s'.held ≡ s.held
  pub counts : s'.counts ≡ s.counts
