-- The drop lines, by the models that they take.
use Rattle.std.specs.Prelude.{◌≡◌, ℕ, ◌+◌, ◌<◌, ◌≤◌, Bool, false, not, ◌&&◌, IsTrue, List, length, Some, slice_get, slice_index_or}
use Rattle.cnf_core.specs.Literals.{Literal, Assignment, is_true, all_true, IsWithin}
use Rattle.cnf_core.specs.Formulas.{Cnf, IsModel}
use Rattle.model_check.specs.Flips.{flipped}
use Rattle.witness_text.specs.declared.line.WitnessLine.{WitnessLine}
use Rattle.witness_text.specs.Models.{model_in}
use Rattle.bone_check.specs.Witnessing.{is_against}

-- the first place from one on where a line takes this model, or that behind the last line
pub record IsNext (drops : List WitnessLine) (model from place : ℕ) : Type 0 where
  pub high : place ≤ length drops
  pub low : from ≤ place
  pub takes : (d : WitnessLine) → slice_get drops place ≡ Some d → d.model ≡ model
  pub between : (i : ℕ) (d : WitnessLine) → from ≤ i → i < place → slice_get drops i ≡ Some d → d.model ≡ model → ⊥

-- for each model the place of the first line that takes it, and for each line that of the next
pub record Links : Type 0 where
  pub first : List ℕ
  pub next : List ℕ

abbrev pub link : List ℕ → ℕ → ℕ
link places i = slice_index_or places i 0

-- the places are those of the lines from this place on, which take some of so many models
pub record IsChained (drops : List WitnessLine) (from models : ℕ) (links : Links) : Type 0 where
  pub models_are : length links.first ≡ models
  pub lines_are : length links.next ≡ length drops
  pub firsts : (k : ℕ) → k < models → IsNext drops k from (link links.first k)
  pub nexts : (i : ℕ) (d : WitnessLine) → from ≤ i → slice_get drops i ≡ Some d
      → IsNext drops d.model (i + 1) (link links.next i)

-- each line names a model that is there
abbrev pub AreNamed : ℕ → List WitnessLine → Type 0
AreNamed models drops = (i : ℕ) (d : WitnessLine) → slice_get drops i ≡ Some d → d.model < models

-- each line names one of n variables
abbrev pub AreTheirs : ℕ → List WitnessLine → Type 0
AreTheirs n drops = (i : ℕ) (d : WitnessLine) → slice_get drops i ≡ Some d → IsWithin n d.lit

-- each model has a value for each of n variables
abbrev pub HaveValues : ℕ → List Assignment → Type 0
HaveValues n models = (k : ℕ) → k < length models → length (model_in models k) ≡ n

-- each is a model of the formula
abbrev pub AreModels : Cnf → List Assignment → Type 0
AreModels F models = (k : ℕ) → k < length models → IsModel F (model_in models k)

-- before this place each line passes that takes the model
abbrev pub PassBefore : Cnf → List Assignment → List WitnessLine → ℕ → ℕ → Type 0
PassBefore F models drops model place =
    (i : ℕ) (d : WitnessLine) → i < place → slice_get drops i ≡ Some d → d.model ≡ model → IsTrue (is_against F models d)

-- before this place each line passes that takes one of the first models
abbrev pub PassBelow : Cnf → List Assignment → List WitnessLine → ℕ → ℕ → Type 0
PassBelow F models drops count place =
    (i : ℕ) (d : WitnessLine) → i < place → slice_get drops i ≡ Some d → d.model < count → IsTrue (is_against F models d)

-- the line at this place, if there is one, doesn't pass
abbrev pub FailsAt : Cnf → List Assignment → List WitnessLine → ℕ → Type 0
FailsAt F models drops place = (d : WitnessLine) → slice_get drops place ≡ Some d → is_against F models d ≡ false

-- whether the flipped assignment is a model in which the literal is false
abbrev pub flips_against : Cnf → Assignment → Literal → Bool
flips_against F a l = all_true (flipped a l.var) F.clauses && not (is_true (flipped a l.var) l)
