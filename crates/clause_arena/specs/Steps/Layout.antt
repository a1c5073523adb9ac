-- How the clauses lie in memory: all literals one after another, and where each clause starts.
use Rattle.std.specs.Prelude.{◌≡◌, ℕ, ◌+◌, ◌<◌, ◌≤◌, ◌^◌, false, List, length, map, slice_index, slice_index_or, slice_range}
use Rattle.std.specs.List.{range_with_len}
use Rattle.cnf_core.specs.Literals.{Literals}
use Rattle.clause_arena.specs.Entries.{Entry, Entries}
use Rattle.clause_arena.specs.declared.arena.Mark.{Mark}

abbrev pub no_mark : Mark
no_mark = record { id = 0; learnt = false; live = false }

abbrev pub mark_at : List Mark → ℕ → Mark
mark_at marks k = slice_index_or marks k no_mark

-- the entry of one place
abbrev pub laid_entry : Literals → List ℕ → List Mark → ℕ → Entry
laid_entry lits starts marks k = record {
  id = (mark_at marks k).id;
  lits = slice_range lits (slice_index starts k) (slice_index starts (k + 1));
  learnt = (mark_at marks k).learnt;
  live = (mark_at marks k).live;
}

-- the entries of all places
abbrev pub laid_entries : Literals → List ℕ → List Mark → Entries
laid_entries lits starts marks = map (laid_entry lits starts marks) (range_with_len 0 (length marks))

-- each clause starts where the one before it ends, and the last one ends with the literals;
-- an arena without clauses may have no starts
pub record IsLaidOut (lits : Literals) (starts : List ℕ) (marks : List Mark) : Type 0 where
  pub at_most : length starts ≤ length marks + 1
  pub at_least : 0 < length marks → length starts ≡ length marks + 1
  pub first : slice_index starts 0 ≡ 0
  pub last : slice_index starts (length marks) ≡ length lits
  pub rising : (i j : ℕ) → i ≤ j → j ≤ length marks → slice_index starts i ≤ slice_index starts j
  pub literals_limit : length lits < 2 ^ 32
  pub clauses_limit : length marks < 2 ^ 32
