-- The flips since the best model.
use Rattle.std.specs.Prelude.{◌≡◌, ℕ, zero, suc, ◌<◌, List, slice_index}
use Rattle.cnf_core.specs.Literals.{Assignment}
use Rattle.cnf_core.specs.Formulas.{Cnf, IsModel}
use Rattle.model_check.specs.Flips.{flipped}
use Rattle.local_search.specs.Cleaned.{Tabled}
use Rattle.local_search.specs.Searches.{IsSearchOf}
use Rattle.local_search.specs.Steps.States.{IsFree, Keeps}
use Rattle.local_search.specs.declared.search.LocalSearch.{LocalSearch}

-- the values with so many flips taken back, the last one first
abbrev pub undone : Assignment → List ℕ → ℕ → Assignment
undone a journal zero = a
undone a journal (suc n) = undone (flipped a (slice_index journal n)) journal n

-- without them the values are a model
pub record IsUndone (F : Cnf) (held a : Assignment) (journal : List ℕ) (n : ℕ) : Type 0 where
  pub is_model : IsModel F (undone a journal n)
  pub free : (k : ℕ) → k < n → IsFree F.vars held (slice_index journal k)

-- one variable was flipped, and less is left
pub record IsStepped (t : Tabled) (s s' : LocalSearch) (v left left' : ℕ) : Type 0 where
  pub free : IsFree t.formula.vars s.held v
  pub values : s'.values ≡ flipped s.values v
  pub less : left' < left

-- the search has a model, and the held variables have their values
pub record IsBack (t : Tabled) (s s' : LocalSearch) : Type 0 where
  pub sizes : IsSearchOf t s'
  pub is_model : IsModel t.formula s'.values
  pub kept : Keeps s.held s.values s'.values
