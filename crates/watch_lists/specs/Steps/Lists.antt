-- What the private calls make of one list of watches.
use Rattle.std.specs.Prelude.{ℕ, slice_set, swap_remove}
use Rattle.cnf_core.specs.Literals.{Literal}
use Rattle.watch_lists.specs.Watchers.{Watcher}
use Rattle.watch_lists.specs.Lists.{WatchLists, no_watch, list_of, with_list}

-- the lists with another watch at a place of a list
abbrev pub with_watch_at : WatchLists → Literal → ℕ → Watcher → WatchLists
with_watch_at w l k x = with_list w l (slice_set (list_of w l) k x)

-- the lists with the watch of a place taken out, and the list's last one in its place
abbrev pub without_watch : WatchLists → Literal → ℕ → WatchLists
without_watch w l k = with_list w l (swap_remove (list_of w l) k no_watch)
