-- A stored model with one variable flipped: how long it is, and when a witness is against a value.
use Rattle.std.proofs.Common.{◌≡◌, ℕ, ◌-◌, ◌<◌, not, length, [], ◌∙◌, length-set}
use Rattle.std.proofs.lemmas.List.Elements.{All-contains, Contains-get_or}
use Rattle.cnf_core.specs.Literals.{value_of}
use Rattle.cnf_core.specs.Formulas.{IsModel}
use Rattle.model_check.specs.Flips.{flipped}
use Rattle.model_store.specs.Stores.{Store, model_at, HoldsModels}

-- what stands at a place is a model
pub model_at_is_model : (s : Store) (m : ℕ) → HoldsModels s → m < length s.models
    → IsModel s.formula (model_at s m)
model_at_is_model s m holds below =
    All-contains (IsModel s.formula) s.models (model_at s m) holds.each (Contains-get_or s.models m [] below)

pub length-flipped_at : (s : Store) (m v : ℕ) → HoldsModels s → m < length s.models
    → length (flipped (model_at s m) v) ≡ s.formula.vars
length-flipped_at s m v holds below =
    length-set (model_at s m) (v - 1) (not (value_of (model_at s m) v)) ∙ (model_at_is_model s m holds below).values
