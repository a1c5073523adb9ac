-- How the watches follow a compaction of the arena.
use Rattle.std.specs.Prelude.{◌≡◌, ℕ, ◌≤◌, Option, Some, None, List, map, filter_map}
use Rattle.clause_arena.specs.Entries.{move_of}
use Rattle.watch_lists.specs.Watchers.{Watcher}
use Rattle.watch_lists.specs.Lists.{WatchLists}

-- no clause goes to a higher place
pub record GoDown (moves : List (Option ℕ)) : Type 0 where
  pub down : (r s : ℕ) → move_of moves r ≡ Some s → s ≤ r

-- the watch with its clause at another place
abbrev pub at_place : Watcher → Option ℕ → Option Watcher
at_place x None = None
at_place x (Some place) = Some (record x { clause = place })

-- the watch with its clause's new place, if the clause stays
abbrev pub moved_watch : List (Option ℕ) → Watcher → Option Watcher
moved_watch moves x = at_place x (move_of moves x.clause)

-- the watches of the clauses that stay
abbrev pub moved_list : List (Option ℕ) → List Watcher → List Watcher
moved_list moves xs = filter_map (moved_watch moves) xs

-- all lists, without the watches of clauses that are gone
abbrev pub moved_lists : List (Option ℕ) → WatchLists → WatchLists
moved_lists moves w = record w { lists = map (moved_list moves) w.lists }
