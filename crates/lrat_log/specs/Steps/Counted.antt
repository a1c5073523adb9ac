-- What a log counts beside its entries.
use Rattle.std.specs.Prelude.{◌≡◌, ℕ, ◌+◌, ◌≤◌, Bool, if◌then◌else◌, length}
use Rattle.lrat_log.specs.Entries.{Recorded, learnt_count, is_query_used}
use Rattle.lrat_log.specs.Kept.{IsLog}

-- the log keeps what it owes, and the counts beside it are right
pub record IsCounted (L : Recorded) (used : Bool) (learnt : ℕ) : Type 0 where
  pub log : IsLog L
  pub is_used : used ≡ is_query_used L
  pub room : L.query + (if used then 1 else 0) ≤ length L.entries
  pub count : learnt ≡ learnt_count L.entries
