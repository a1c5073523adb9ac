-- The text of a witness. Every line ends with a line feed.
use Rattle.std.specs.Prelude.{ℕ, Bool, if◌then◌else◌, List, ◌∷◌, ◌++◌, map, codes, decimal, flat_map}
use Rattle.cnf_core.specs.Literals.{Assignment}
use Rattle.cnf_core.specs.Formulas.{true_literal}
use Rattle.cnf_core.specs.Spelling.{literal_text}
use Rattle.model_store.specs.Stores.{Store, model_at}
use Rattle.model_store.specs.declared.witness.Witness.{Witness}
use Rattle.witness_text.specs.declared.line.WitnessLine.{WitnessLine}

-- the digit of a truth value
abbrev pub digit_of : Bool → ℕ
digit_of value = if value then 49 else 48

-- the line of a model: the letter `m`, and a digit for each variable
abbrev pub model_line : Assignment → List ℕ
model_line a = codes "m" ++ map digit_of a ++ codes "\n"

-- the line of a drop: the letter `d`, the literal, the model's number and whether its variable is flipped
abbrev pub drop_line : WitnessLine → List ℕ
drop_line d =
    codes "d " ++ literal_text d.lit ++ codes " " ++ decimal d.model ++ codes " " ++ digit_of d.flip ∷ codes "\n"

abbrev pub model_lines : List Assignment → List ℕ
model_lines models = flat_map model_line models

abbrev pub drop_lines : List WitnessLine → List ℕ
drop_lines drops = flat_map drop_line drops

-- the text of models and drops: a line for each model, and then one for each drop
abbrev pub witness_text : List Assignment → List WitnessLine → List ℕ
witness_text models drops = model_lines models ++ drop_lines drops

-- the drop line of a dropped candidate, which is the literal that this assignment makes true
abbrev pub named_by : Assignment → Witness → WitnessLine
named_by a w = record { lit = true_literal a w.var; model = w.model; flip = w.flip }

-- the drop lines of a store's witnesses, by its first model
abbrev pub named_drops : Store → List Witness → List WitnessLine
named_drops s drops = map (named_by (model_at s 0)) drops

-- the text of a store's models and of witnesses in it
abbrev pub store_text : Store → List Witness → List ℕ
store_text s drops = witness_text s.models (named_drops s drops)
