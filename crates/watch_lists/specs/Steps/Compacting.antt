-- What the removal of clauses and a compaction make of an arena.
use Rattle.std.specs.Prelude.{◌≡◌, ℕ, Option, true, List, length}
use Rattle.clause_arena.specs.Entries.{Entries, entry_at, live_entries, moved_to, move_of}

-- clauses were removed, and the others are as they were
pub record IsCleared (a b : Entries) : Type 0 where
  pub count : length b ≡ length a
  pub same : (r : ℕ) → (entry_at b r).live ≡ true → entry_at b r ≡ entry_at a r

-- clauses were removed, then the live ones alone were kept, and the moves say where each one went
pub record IsCompacted (a b : Entries) (moves : List (Option ℕ)) : Type 0 where
  pub cleared : Entries
  pub is_cleared : IsCleared a cleared
  pub kept : b ≡ live_entries cleared
  pub went : (r : ℕ) → move_of moves r ≡ moved_to cleared r
