-- How byte strings lie in pages.
use Rattle.std.specs.Prelude.{◌≡◌, ℕ, ◌+◌, ◌<◌, ◌≤◌, List, [], length, map, take, drop, slice_index_or}
use Rattle.lrat_log.specs.declared.store.Slot.{Slot}

-- a byte string that was stored, with a place in it and a clock
pub record Stored : Type 0 where
  pub bytes : List ℕ
  pub hints : ℕ
  pub clock : ℕ

abbrev pub nothing_stored : Stored
nothing_stored = record { bytes = []; hints = 0; clock = 0 }

abbrev pub stored_at : List Stored → ℕ → Stored
stored_at all i = slice_index_or all i nothing_stored

abbrev pub page_at : List (List ℕ) → ℕ → List ℕ
page_at pages k = slice_index_or pages k []

-- the bytes of a slot
abbrev pub piece : List (List ℕ) → Slot → List ℕ
piece pages s = take s.size (drop s.start (page_at pages s.page))

abbrev pub stored_in : List (List ℕ) → Slot → Stored
stored_in pages s = record { bytes = piece pages s; hints = s.hints; clock = s.clock }

abbrev pub all_stored : List (List ℕ) → List Slot → List Stored
all_stored pages index = map (stored_in pages) index

-- the bytes of the slot are there, and the place is one of theirs or behind them
pub record IsSlot (pages : List (List ℕ)) (s : Slot) : Type 0 where
  pub page : s.page < length pages
  pub fits : s.start + s.size ≤ length (page_at pages s.page)
  pub hints : s.hints ≤ s.size

-- pages have only more behind them
pub record KeepsPages (old new : List (List ℕ)) : Type 0 where
  pub count : length old ≤ length new
  pub pages : (k : ℕ) → k < length old → length (page_at old k) ≤ length (page_at new k)
  pub fronts : (k n : ℕ) → k < length old → n ≤ length (page_at old k) → take n (page_at new k) ≡ take n (page_at old k)

-- the bytes stand there
pub record IsWritten (pages : List (List ℕ)) (page start : ℕ) (bytes : List ℕ) : Type 0 where
  pub page_within : page < length pages
  pub fits : start + length bytes ≤ length (page_at pages page)
  pub there : take (length bytes) (drop start (page_at pages page)) ≡ bytes
