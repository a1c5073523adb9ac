-- Entries of several logs by one number each, log by log.
use Rattle.std.specs.Prelude.{◌≡◌, ℕ, zero, suc, ◌+◌, ◌-◌, ◌≤◌, nat_lt, if◌then◌else◌, List, [], ◌∷◌, length, map, slice_index_or}
use Rattle.lrat_log.specs.Entries.{Recorded}
use Rattle.cert_merge.specs.declared.place.Place.{Place}

-- how many entries the logs before this one have
abbrev pub start_of : List Recorded → ℕ → ℕ
start_of [] g = 0
start_of (L ∷ Ls) zero = 0
start_of (L ∷ Ls) (suc g) = length L.entries + start_of Ls g

-- the place of the entry with this number, where the first of the logs has the number g
abbrev pub place_from : ℕ → List Recorded → ℕ → Place
place_from g [] n = record { log = g; entry = n }
place_from g (L ∷ Ls) n =
    if nat_lt n (length L.entries) then record { log = g; entry = n } else place_from (g + 1) Ls (n - length L.entries)

abbrev pub places_of : List Recorded → List ℕ → List Place
places_of logs numbers = map (place_from 0 logs) numbers

-- how many entries stand before each log, and behind the last
pub record AreStarts (logs : List Recorded) (starts : List ℕ) : Type 0 where
  pub count : length starts ≡ length logs + 1
  pub each : (g d : ℕ) → g ≤ length logs → slice_index_or starts g d ≡ start_of logs g
