-- One flip of a walk, and one pass.
use Rattle.std.specs.Prelude.{◌≡◌, ℕ, ◌+◌, ◌<◌, Bool, true, false, List}
use Rattle.cnf_core.specs.Literals.{Assignment, value_of}
use Rattle.cnf_core.specs.Formulas.{IsModel}
use Rattle.model_check.specs.Flips.{flipped}
use Rattle.flip_literals.specs.Listings.{Listing}
use Rattle.flip_literals.specs.Walks.{IsWalked, IsAtRest, differences}

-- the variable had its first value, and the model with it flipped is a model
pub record IsFlipped (o : Listing) (v : ℕ) (a b : Assignment) : Type 0 where
  pub first : value_of a v ≡ value_of o.first v
  pub is : b ≡ flipped a v
  pub is_model : IsModel o.formula b
  pub more : differences o.first b ≡ differences o.first a + 1

-- nothing changed, and the variable has the other value or can't be flipped
pub record IsHeld (o : Listing) (v : ℕ) (a b : Assignment) : Type 0 where
  pub same : b ≡ a
  pub held : value_of a v ≡ value_of o.first v → IsModel o.formula (flipped a v) → ⊥

abbrev pub Tells : Listing → ℕ → Assignment → Assignment → Bool → Type 0
Tells o v a b true = IsFlipped o v a b
Tells o v a b false = IsHeld o v a b

-- whether a pass over the variables flipped one
abbrev pub PassTells : Listing → List ℕ → Assignment → Assignment → Bool → Type 0
PassTells o vs a b true = differences o.first a < differences o.first b
PassTells o vs a b false = (b ≡ a) × IsAtRest o vs a

pub record IsPassed (o : Listing) (vs : List ℕ) (a b : Assignment) (flips : Bool) : Type 0 where
  pub walked : IsWalked o vs a b
  pub told : PassTells o vs a b flips
