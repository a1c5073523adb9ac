-- The lists of watches: one for each literal, with the clauses that watch it.
use Rattle.std.specs.Prelude.{◌≡◌, ◌≢◌, ℕ, zero, suc, ◌+◌, ◌*◌, ◌<◌, ◌≤◌, ◌==◌, ◌&&◌, nat_le, if◌then◌else◌, true, false, List, [], ◌∷◌}
use Rattle.std.specs.Prelude.{◌++◌, length, replicate, slice_index_or, slice_set, Contains}
use Rattle.cnf_core.specs.Literals.{Literal, code_of}
use Rattle.clause_arena.specs.Entries.{Entries, no_literal, entry_at, len_of, literal_of}
use Rattle.watch_lists.specs.Watchers.{Watcher}
use Rattle.watch_lists.specs.Clauses.{IsLong, AreClean}

-- the lists, by the packed forms of their literals, and for how many variables they were made
pub record WatchLists : Type 0 where
  pub lists : List (List Watcher)
  pub vars : ℕ

-- there is a list for each literal
abbrev pub IsSized : WatchLists → Type 0
IsSized w = length w.lists ≡ 2 * w.vars + 2

-- what reads give past the end
abbrev pub no_watch : Watcher
no_watch = record { clause = 0; blocker = no_literal; binary = false }

-- the list of a literal
abbrev pub list_of : WatchLists → Literal → List Watcher
list_of w l = slice_index_or w.lists (code_of l) []

-- one of its watches
abbrev pub watch_at : WatchLists → Literal → ℕ → Watcher
watch_at w l k = slice_index_or (list_of w l) k no_watch

-- lists without watches
abbrev pub empty_lists : ℕ → WatchLists
empty_lists vars = record { lists = replicate (2 * vars + 2) []; vars = vars }

-- the lists with one of them another
abbrev pub with_list : WatchLists → Literal → List Watcher → WatchLists
with_list w l xs = record w { lists = slice_set w.lists (code_of l) xs }

-- with one watch more in a list
abbrev pub with_watch : WatchLists → Literal → Watcher → WatchLists
with_watch w l x = with_list w l (list_of w l ++ x ∷ [])

-- the watch of a clause with this blocker
abbrev pub watcher_of : Entries → ℕ → Literal → Watcher
watcher_of a r blocker = record { clause = r; blocker = blocker; binary = len_of a r == 2 }

-- with the clause in the lists of its first two literals, each the other's blocker
abbrev pub with_clause : WatchLists → Entries → ℕ → WatchLists
with_clause w a r =
    let first = literal_of a r 0 in
    let second = literal_of a r 1 in
    with_watch (with_watch w first (watcher_of a r second)) second (watcher_of a r first)

-- the lists with each of the first n clauses in them that is live and has two or more literals
abbrev pub with_clauses : WatchLists → Entries → ℕ → WatchLists
with_clauses w a zero = w
with_clauses w a (suc n) =
    if (entry_at a n).live && nat_le 2 (len_of a n) then with_clause (with_clauses w a n) a n else with_clauses w a n

-- the watch is of a live clause of two or more literals, and its blocker is one of these; where it says that
-- there are just two, they are the literal of its list and the blocker
pub record IsSound (a : Entries) (l : Literal) (x : Watcher) : Type 0 where
  pub long : IsLong a x.clause
  pub blocker : Contains (entry_at a x.clause).lits x.blocker
  pub pair : x.binary ≡ true → (k : Literal) → Contains (entry_at a x.clause).lits k → k ≢ x.blocker → k ≡ l

-- the list has a watch of the clause, at this place or a later one
pub record HasWatchFrom (xs : List Watcher) (r start : ℕ) : Type 0 where
  pub place : ℕ
  pub from : start ≤ place
  pub within : place < length xs
  pub clause : (slice_index_or xs place no_watch).clause ≡ r

-- just the live clauses of two or more literals are attached: each is in the lists of its first two literals
pub record IsAttached (a : Entries) (w : WatchLists) : Type 0 where
  pub size : IsSized w
  pub clean : AreClean w.vars a
  pub sound : (l : Literal) (k : ℕ) → k < length (list_of w l) → IsSound a l (watch_at w l k)
  pub complete : (r i : ℕ) → IsLong a r → i < 2 → HasWatchFrom (list_of w (literal_of a r i)) r 0
