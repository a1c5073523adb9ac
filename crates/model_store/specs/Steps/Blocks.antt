-- The words of a store's models.
use Rattle.std.specs.Prelude.{◌≡◌, ℕ, ◌*◌, List, length}
use Rattle.cnf_core.specs.Formulas.{Cnf}
use Rattle.model_store.specs.Steps.Packed.{words_for, all_unpacked}
use Rattle.model_store.specs.Stores.{store_of, HoldsModels}

-- a block of just the words of so many models, all of them models of the formula
pub record IsBlock (words : List ℕ) (F : Cnf) (count : ℕ) : Type 0 where
  pub whole : length words ≡ words_for F.vars * count
  pub holds : HoldsModels (store_of F (all_unpacked words F.vars count))
