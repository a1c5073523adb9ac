-- What a walk remembers, and what its steps leave of it and of the model.
use Rattle.std.specs.Prelude.{◌≡◌, ℕ, ◌+◌, ◌≤◌, List, length}
use Rattle.std.specs.Vec.{vec_capacity}
use Rattle.cnf_core.specs.Literals.{Assignment}
use Rattle.cnf_core.specs.Formulas.{IsModel}
use Rattle.flip_literals.specs.Listings.{Listing}
use Rattle.flip_literals.specs.Walks.{AreVars, IsWalked, differences}
use Rattle.flip_literals.specs.Steps.Marking.{IsMarkedIn}
use Rattle.flip_literals.specs.declared.holds.Holds.{Holds}

-- made for so many variables
pub record IsMade (n : ℕ) (h : Holds) : Type 0 where
  pub each : length h.holders.items ≡ n
  pub begins : length h.begins.items ≡ n
  pub marks : length h.listed ≡ n
  pub vars : AreVars n h.flipped.items
  pub room : n ≤ vec_capacity h.flipped

-- at work on a model
pub record IsHolding (o : Listing) (h : Holds) (a : Assignment) : Type 0 where
  pub made : IsMade o.formula.vars h
  pub is_model : IsModel o.formula a
  pub flips : length h.flipped.items ≤ differences o.first a

-- only what held what has changed
pub record IsAsBefore (h k : Holds) : Type 0 where
  pub each : length k.holders.items ≡ length h.holders.items
  pub begins : length k.begins.items ≡ length h.begins.items
  pub listed : k.listed ≡ h.listed
  pub flipped : k.flipped ≡ h.flipped

-- what any step leaves: no more variables wait than were flipped
pub record IsFlip (o : Listing) (h : Holds) (a : Assignment) (k : Holds) (b : Assignment) : Type 0 where
  pub holding : IsHolding o k b
  pub listed : k.listed ≡ h.listed
  pub flips : length k.flipped.items + differences o.first a ≤ length h.flipped.items + differences o.first b
  pub more : differences o.first a ≤ differences o.first b

-- flips of marked variables
pub record IsWork (o : Listing) (h : Holds) (a : Assignment) (k : Holds) (b : Assignment) : Type 0 where
  pub flip : IsFlip o h a k b
  pub walked : (candidates : List ℕ) → IsMarkedIn h.listed candidates → IsWalked o candidates a b
