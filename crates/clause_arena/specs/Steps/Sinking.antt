-- How the live clauses are moved down over the removed ones.
use Rattle.std.specs.Prelude.{◌≡◌, ℕ, ◌+◌, ◌-◌, ◌<◌, ◌≤◌, ◌^◌, Option, Some, List, ◌++◌, length, map, take, slice_index, slice_index_or, slice_set}
use Rattle.std.specs.List.{range_with_len}
use Rattle.cnf_core.specs.Literals.{Literals}
use Rattle.clause_arena.specs.Entries.{Entries, no_literal, entry_at, live_entries, moved_to, move_of}
use Rattle.clause_arena.specs.Steps.Layout.{mark_at, laid_entry, laid_entries}
use Rattle.clause_arena.specs.declared.arena.Mark.{Mark}

-- the table of moves where so many first clauses stay, and the others go where a list says
abbrev pub moves_of : ℕ → List (Option ℕ) → List (Option ℕ)
moves_of stayed to = map (λ r. Some r) (range_with_len 0 stayed) ++ to

-- a clause may go to a lower place, or stay
pub record MaySink (l : Literals) (s : List ℕ) (m : List Mark) (place to : ℕ) : Type 0 where
  pub down : to ≤ place
  pub present : place < length m
  pub starts : place + 1 < length s
  pub before : slice_index s to ≤ slice_index s place
  pub rises : slice_index s place ≤ slice_index s (place + 1)
  pub within : slice_index s (place + 1) ≤ length l
  pub fits : length l < 2 ^ 32

-- the clause of a place is at another one too, and what lies before that and behind the clause stays
pub record IsOneDown (l : Literals) (s : List ℕ) (m : List Mark) (place to : ℕ) (l' : Literals) (s' : List ℕ) (m' : List Mark)
    : Type 0 where
  pub size : length l' ≡ length l
  pub before : (k : ℕ) → k < slice_index s to → slice_index_or l' k no_literal ≡ slice_index_or l k no_literal
  pub lits : (k : ℕ) → k < slice_index s (place + 1) - slice_index s place
      → slice_index_or l' (slice_index s to + k) no_literal ≡ slice_index_or l (slice_index s place + k) no_literal
  pub behind : (k : ℕ) → slice_index s (place + 1) ≤ k → slice_index_or l' k no_literal ≡ slice_index_or l k no_literal
  pub starts : s' ≡ slice_set s (to + 1) (slice_index s to + (slice_index s (place + 1) - slice_index s place))
  pub marks : m' ≡ slice_set m to (mark_at m place)

-- the first clauses lie together, and are these entries
pub record IsFront (l : Literals) (s : List ℕ) (m : List Mark) (a : Entries) (count : ℕ) : Type 0 where
  pub size : length a ≡ count
  pub starts : count < length s
  pub marks : count ≤ length m
  pub first : slice_index s 0 ≡ 0
  pub rising : (i j : ℕ) → i ≤ j → j ≤ count → slice_index s i ≤ slice_index s j
  pub fits : slice_index s count ≤ length l
  pub entries : (k : ℕ) → k < count → entry_at a k ≡ laid_entry l s m k

-- from a place on nothing has changed
pub record IsRest (l : Literals) (s : List ℕ) (m : List Mark) (place : ℕ) (l' : Literals) (s' : List ℕ) (m' : List Mark) : Type 0 where
  pub size : length l' ≡ length l
  pub starts_size : length s' ≡ length s
  pub marks_size : length m' ≡ length m
  pub lits : (k : ℕ) → slice_index s place ≤ k → slice_index_or l' k no_literal ≡ slice_index_or l k no_literal
  pub starts : (k : ℕ) → place ≤ k → slice_index s' k ≡ slice_index s k
  pub marks : (k : ℕ) → place ≤ k → mark_at m' k ≡ mark_at m k

-- of the clauses before a place the live ones lie together, and their moves are written down
pub record IsSunk (l : Literals) (s : List ℕ) (m : List Mark) (first place kept : ℕ) (to : List (Option ℕ))
    (l' : Literals) (s' : List ℕ) (m' : List Mark) : Type 0 where
  pub down : kept ≤ place
  pub before : slice_index s' kept ≤ slice_index s place
  pub count : first + length to ≡ place
  pub moves : (r : ℕ) → r < place → move_of (moves_of first to) r ≡ moved_to (laid_entries l s m) r
  pub front : IsFront l' s' m' (live_entries (take place (laid_entries l s m))) kept
  pub rest : IsRest l s m place l' s' m'
