-- The models of a store, and the formula that they are models of.
use Rattle.std.specs.Prelude.{ℕ, ◌^◌, ◌≤◌, List, [], ◌∷◌, ◌++◌, length, All, slice_index_or}
use Rattle.cnf_core.specs.Literals.{Assignment}
use Rattle.cnf_core.specs.Formulas.{Cnf, IsModel}

-- a formula, and models of it in the order in which they came
pub record Store : Type 0 where
  pub formula : Cnf
  pub models : List Assignment

-- the store of the formula with these models
abbrev pub store_of : Cnf → List Assignment → Store
store_of F models = record { formula = F; models = models }

-- the store without models
abbrev pub empty_store : Cnf → Store
empty_store F = store_of F []

-- the store with one model more
abbrev pub with_model : Store → Assignment → Store
with_model s a = record s { models = s.models ++ a ∷ [] }

-- the store with the other's models after its own
abbrev pub with_models : Store → Store → Store
with_models s other = record s { models = s.models ++ other.models }

-- the model at a place, counted from 0
abbrev pub model_at : Store → ℕ → Assignment
model_at s place = slice_index_or s.models place []

-- each is a model of the formula, and there are at most 2^26
pub record HoldsModels (s : Store) : Type 0 where
  pub each : All (IsModel s.formula) s.models
  pub limit : length s.models ≤ 2 ^ 26
