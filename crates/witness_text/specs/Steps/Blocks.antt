-- The words of packed models.
use Rattle.std.specs.Prelude.{◌≡◌, ◌≤◌, ◌*◌, ◌^◌, ℕ, List, length}
use Rattle.model_store.specs.Steps.Packed.{words_for}
use Rattle.witness_text.specs.declared.line.WitnessLine.{WitnessLine}
use Rattle.witness_text.specs.Reading.{last_var}

-- a block of just the words of so many assignments of n values
pub record IsPacked (words : List ℕ) (n count : ℕ) : Type 0 where
  pub whole : length words ≡ words_for n * count
  pub limit : n ≤ 2 ^ 20

-- packed models, and drop lines of which the last has this variable
pub record IsGathered (words : List ℕ) (n count : ℕ) (drops : List WitnessLine) (last : ℕ) : Type 0 where
  pub packed : IsPacked words n count
  pub last_is : last ≡ last_var drops
