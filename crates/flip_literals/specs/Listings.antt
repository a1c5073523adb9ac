-- Where the literals stand that one assignment makes true.
use Rattle.std.specs.Prelude.{◌↔◌, ℕ, ◌<◌, List, length, Contains, slice_index_or, []}
use Rattle.cnf_core.specs.Literals.{Literals, Assignment}
use Rattle.cnf_core.specs.Formulas.{Cnf, true_literal}

-- a formula, and the assignment whose true literals are listed
pub record Listing : Type 0 where
  pub formula : Cnf
  pub first : Assignment

-- the clause at a place, counted from 0
abbrev pub clause_at : Cnf → ℕ → Literals
clause_at F place = slice_index_or F.clauses place []

-- the formula has a clause at this place, and in it stands the variable's literal that the assignment makes true
pub record StandsAt (F : Cnf) (a : Assignment) (v place : ℕ) : Type 0 where
  pub within : place < length F.clauses
  pub here : Contains (clause_at F place) (true_literal a v)

-- the list has just the places where it stands
abbrev pub ListsPlaces : Listing → ℕ → List ℕ → Type 0
ListsPlaces o v places = (place : ℕ) → Contains places place ↔ StandsAt o.formula o.first v place
