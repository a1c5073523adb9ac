-- How the tallies lie: places by spots, and breaks by variable.
use Rattle.std.specs.Prelude.{◌≡◌, ◌≢◌, ℕ, ◌+◌, ◌-◌, ◌^◌, ◌<◌, ◌≤◌, List, length, slice_index}
use Rattle.local_search.specs.Steps.Spots.{IsArranged}
use Rattle.local_search.specs.Tallies.{tally_at, rests_on, breaks_of, Tallied}
use Rattle.local_search.specs.declared.counts.Tally.{Tally}

-- for each variable, with what a tally adds to it
pub record AddsBreak (t : Tally) (less more : List ℕ) : Type 0 where
  pub each : length more ≡ length less
  pub sums : (v : ℕ) → v < length less → slice_index less v + rests_on v t ≡ slice_index more v

-- the tally is one of those that were added up
pub record IsAdded (t : Tally) (breaks : List ℕ) : Type 0 where
  pub here : (v : ℕ) → v < length breaks → rests_on v t ≤ slice_index breaks v

pub record IsCounts (tallies : List Tally) (order spots : List ℕ) (broken : ℕ) (breaks : List ℕ) : Type 0 where
  pub limit : length tallies ≤ 2 ^ 21
  pub variables : 0 < length breaks
  pub arranged : IsArranged (length tallies) order spots
  pub low : broken ≤ length tallies
  pub first : (p : ℕ) → p < length tallies → (tally_at tallies p).count ≡ 0 → slice_index spots p < broken
  pub later : (p : ℕ) → p < length tallies → (tally_at tallies p).count ≢ 0 → broken ≤ slice_index spots p
  pub rests : (v : ℕ) → v < length breaks → slice_index breaks v ≡ breaks_of tallies v

-- what is seen of them
abbrev pub tallied : List Tally → List ℕ → Tallied
tallied tallies breaks = record { vars = length breaks - 1; tallies = tallies }
