-- What a witness names: a stored model, or that model with the witness's variable flipped.
use Rattle.std.specs.Prelude.{◌<◌, ◌≤◌, length, if◌then◌else◌}
use Rattle.cnf_core.specs.Literals.{Assignment}
use Rattle.model_check.specs.Flips.{flipped}
use Rattle.model_store.specs.Stores.{Store, model_at}
use Rattle.model_store.specs.declared.witness.Witness.{Witness}

-- the store has the model, and the formula the variable
pub record IsInRange (s : Store) (w : Witness) : Type 0 where
  pub model : w.model < length s.models
  pub low : 0 < w.var
  pub high : w.var ≤ s.formula.vars

-- the assignment that the witness names
abbrev pub witness_in : Store → Witness → Assignment
witness_in s w = if w.flip then flipped (model_at s w.model) w.var else model_at s w.model
