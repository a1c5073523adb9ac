-- The clauses of an arena, as the list of its entries. A reference is a place in that list.
use Rattle.std.specs.Prelude.{◌≡◌, ℕ, ◌<◌, Bool, true, false, if◌then◌else◌, Option, Some, None, List, [], ◌∷◌, ◌++◌, length, take, filter}
use Rattle.std.specs.Prelude.{count_by, swap, slice_index_or, slice_set}
use Rattle.cnf_core.specs.Literals.{Literal, Literals}

-- a clause with its id, whether it was learnt, and whether it is still there
pub record Entry : Type 0 where
  pub id : ℕ
  pub lits : Literals
  pub learnt : Bool
  pub live : Bool

abbrev pub Entries : Type 0
Entries = List Entry

-- what reads give past the end
abbrev pub no_entry : Entry
no_entry = record { id = 0; lits = []; learnt = false; live = false }

abbrev pub no_literal : Literal
no_literal = record { var = 0; positive = false }

-- the entry of a reference
abbrev pub entry_at : Entries → ℕ → Entry
entry_at a r = slice_index_or a r no_entry

-- how many literals its clause has
abbrev pub len_of : Entries → ℕ → ℕ
len_of a r = length (entry_at a r).lits

-- one of them
abbrev pub literal_of : Entries → ℕ → ℕ → Literal
literal_of a r i = slice_index_or (entry_at a r).lits i no_literal

abbrev pub is_live : Entry → Bool
is_live e = e.live

-- the reference is one of the arena's, and its clause was not removed
pub record IsLive (a : Entries) (r : ℕ) : Type 0 where
  pub present : r < length a
  pub live : (entry_at a r).live ≡ true

-- a live clause as it is added
abbrev pub new_entry : ℕ → Literals → Bool → Entry
new_entry id lits learnt = record { id = id; lits = lits; learnt = learnt; live = true }

-- the arena with one entry more
abbrev pub with_entry : Entries → Entry → Entries
with_entry a e = a ++ e ∷ []

-- the arena with one clause removed: its entry stays, and is not live
abbrev pub without_clause : Entries → ℕ → Entries
without_clause a r = slice_set a r (record (entry_at a r) { live = false })

-- the arena with two literals of a clause exchanged
abbrev pub with_swap : Entries → ℕ → ℕ → ℕ → Entries
with_swap a r i j = slice_set a r (record (entry_at a r) { lits = swap (entry_at a r).lits i j })

-- the live entries, in their order
abbrev pub live_entries : Entries → Entries
live_entries a = filter is_live a

-- where a clause stands among the live ones, if it is live
abbrev pub moved_to : Entries → ℕ → Option ℕ
moved_to a r = if (entry_at a r).live then Some (count_by is_live (take r a)) else None

-- what a table of moves says of a reference
abbrev pub move_of : List (Option ℕ) → ℕ → Option ℕ
move_of m r = slice_index_or m r None
