-- Numbers below a bound in a table, and where each stands in it.
use Rattle.std.specs.Prelude.{◌≡◌, ◌≢◌, ℕ, ◌^◌, ◌<◌, ◌≤◌, Bool, false, IsTrue, List, length, slice_index}

-- each of n places stands at its spot
pub record IsArranged (n : ℕ) (order spots : List ℕ) : Type 0 where
  pub orders : length order ≡ n
  pub each : length spots ≡ n
  pub spot : (p : ℕ) → p < n → slice_index spots p < n
  pub place : (k : ℕ) → k < n → slice_index order k < n
  pub there : (p : ℕ) → p < n → slice_index order (slice_index spots p) ≡ p
  pub back : (k : ℕ) → k < n → slice_index spots (slice_index order k) ≡ k

-- the place went to a spot, and what was there to the place's own
pub record IsSwapped (place spot : ℕ) (order spots spots' : List ℕ) : Type 0 where
  pub own : slice_index spots' place ≡ spot
  pub other : slice_index order spot ≢ place → slice_index spots' (slice_index order spot) ≡ slice_index spots place
  pub rest : (q : ℕ) → q ≢ place → q ≢ slice_index order spot → slice_index spots' q ≡ slice_index spots q

-- the place is among the first ones, and each other one is or isn't as before
pub record Enters (n place count : ℕ) (spots : List ℕ) (count' : ℕ) (spots' : List ℕ) : Type 0 where
  pub own : slice_index spots' place < count'
  pub first : (q : ℕ) → q < n → q ≢ place → slice_index spots q < count → slice_index spots' q < count'
  pub later : (q : ℕ) → q < n → q ≢ place → count ≤ slice_index spots q → count' ≤ slice_index spots' q

pub record Leaves (n place count : ℕ) (spots : List ℕ) (count' : ℕ) (spots' : List ℕ) : Type 0 where
  pub own : count' ≤ slice_index spots' place
  pub first : (q : ℕ) → q < n → q ≢ place → slice_index spots q < count → slice_index spots' q < count'
  pub later : (q : ℕ) → q < n → q ≢ place → count ≤ slice_index spots q → count' ≤ slice_index spots' q

-- the place is among the first ones just where it was broken
pub record IsSettled (place : ℕ) (was : Bool) (count : ℕ) (spots : List ℕ) : Type 0 where
  pub first : IsTrue was → slice_index spots place < count
  pub later : was ≡ false → count ≤ slice_index spots place

-- the place is among the first ones just where it is broken
pub record Settles (n place : ℕ) (broken : Bool) (count : ℕ) (spots : List ℕ) (count' : ℕ) (spots' : List ℕ) : Type 0 where
  pub own_first : IsTrue broken → slice_index spots' place < count'
  pub own_later : broken ≡ false → count' ≤ slice_index spots' place
  pub first : (q : ℕ) → q < n → q ≢ place → slice_index spots q < count → slice_index spots' q < count'
  pub later : (q : ℕ) → q < n → q ≢ place → count ≤ slice_index spots q → count' ≤ slice_index spots' q

-- the first ones are the members
pub record IsSet (order spots : List ℕ) (count : ℕ) : Type 0 where
  pub limit : length order ≤ 2 ^ 21
  pub arranged : IsArranged (length order) order spots
  pub low : count ≤ length order
