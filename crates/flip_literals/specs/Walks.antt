-- What a walk over a model leaves: a model with some candidates turned to the value opposite to their first.
use Rattle.std.specs.Prelude.{◌≡◌, ℕ, ◌+◌, ◌<◌, ◌≤◌, ◌⊎◌, not, if◌then◌else◌, List, [], ◌∷◌, length, All, Contains}
use Rattle.cnf_core.specs.Literals.{Assignment, value_of}
use Rattle.cnf_core.specs.Formulas.{IsModel}
use Rattle.model_check.specs.Flips.{flipped}
use Rattle.flip_literals.specs.Listings.{Listing}

-- each is one of the variables 1 to n
abbrev pub AreVars : ℕ → List ℕ → Type 0
AreVars n vs = All (λ v. (0 < v) × (v ≤ n)) vs

-- the variable is a candidate, and went from its first value to the other
pub record IsTurned (first : Assignment) (candidates : List ℕ) (a b : Assignment) (v : ℕ) : Type 0 where
  pub listed : Contains candidates v
  pub before : value_of a v ≡ value_of first v
  pub after : value_of b v ≡ not (value_of first v)

-- b is a model, and a but for the variables that are turned
pub record IsWalked (o : Listing) (candidates : List ℕ) (a b : Assignment) : Type 0 where
  pub is_model : IsModel o.formula b
  pub each : length b ≡ length a
  pub kept : (v : ℕ) → 0 < v → v ≤ o.formula.vars → (value_of b v ≡ value_of a v) ⊎ IsTurned o.first candidates a b v

-- no candidate with its first value can be flipped alone
abbrev pub IsAtRest : Listing → List ℕ → Assignment → Type 0
IsAtRest o candidates a = (v : ℕ) → Contains candidates v → value_of a v ≡ value_of o.first v → IsModel o.formula (flipped a v) → ⊥

-- how many values differ
abbrev pub differences : Assignment → Assignment → ℕ
differences [] b = 0
differences (x ∷ a) [] = 0
differences (x ∷ a) (y ∷ b) = (if x then (if y then 0 else 1) else (if y then 1 else 0)) + differences a b
