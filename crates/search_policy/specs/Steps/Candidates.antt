-- How the clauses that may go are gathered.
use Rattle.std.specs.Prelude.{◌≡◌, ℕ, ◌<◌, ◌^◌, ◌&&◌, not, Bool, true, false, List, length, All, map, filter, slice_index_or, slice_set}
use Rattle.std.specs.List.{range_with_len}
use Rattle.clause_arena.specs.Entries.{Entries, entry_at, len_of}
use Rattle.trail_core.specs.declared.entry.Reason.{Reason}
use Rattle.trail_core.specs.declared.entry.Reason.TheVariants.{Decision, Clause as ByClause, Unit as ByUnit}
use Rattle.trail_core.specs.Trails.{TrailState, assigned_at}
use Rattle.search_policy.specs.Removals.{IsReason}
use Rattle.search_policy.specs.declared.removals.Candidate.{Candidate}

-- the marks with that of a clause that is a reason
abbrev pub with_reason : List Bool → Reason → List Bool
with_reason marks Decision = marks
with_reason marks (ByClause r) = slice_set marks r true
with_reason marks (ByUnit id) = marks

-- the marks say of each clause whether it is the reason of one of the trail's first entries
pub record AreReasons (a : Entries) (t : TrailState) (count : ℕ) (marks : List Bool) : Type 0 where
  pub size : length marks ≡ length a
  pub marked : (r : ℕ) → r < length a → slice_index_or marks r false ≡ true → IsReason t r
  pub all : (r k : ℕ) → r < length a → k < count → (assigned_at t.entries k).reason ≡ ByClause r
      → slice_index_or marks r false ≡ true

-- whether the clause is live and learnt, and the marks leave it
abbrev pub may_go : Entries → List Bool → ℕ → Bool
may_go a marks r = (entry_at a r).live && ((entry_at a r).learnt && not (slice_index_or marks r false))

-- the clauses before a place that may go
abbrev pub may_go_upto : Entries → List Bool → ℕ → List ℕ
may_go_upto a marks n = filter (may_go a marks) (map (λ r. r) (range_with_len 0 n))

-- the candidates are those clauses
pub record AreCandidates (a : Entries) (marks : List Bool) (count : ℕ) (cs : List Candidate) : Type 0 where
  pub clauses : map (λ (c : Candidate). c.clause) cs ≡ may_go_upto a marks count
  pub lengths : All (λ (c : Candidate). (c.len ≡ len_of a c.clause) × (c.len < 2 ^ 64)) cs
