-- The packed form of a watch.
use Rattle.std.specs.Prelude.{◌≡◌, ℕ, ◌+◌, ◌^◌, ◌<◌, ◌%◌, nat_le, if◌then◌else◌}
use Rattle.std.proofs.Common.{arith}
use Rattle.cnf_core.specs.Literals.{Literal}
use Rattle.watch_lists.specs.Watchers.{Watcher}

-- the packed form of clause and mark: the clause, and 2^31 more where it has just two literals
abbrev pub watcher_code : Watcher → ℕ
watcher_code x = x.clause + (if x.binary then 2 ^ 31 else 0)

-- the watch of a packed form
abbrev pub watcher_of_code : ℕ → Literal → Watcher
watcher_of_code code blocker = record { clause = code % 2 ^ 31; blocker = blocker; binary = nat_le (2 ^ 31) code }

-- the packed form gives the watch, and the watch the packed form
pub watcher_code-of_code : (code : ℕ) (blocker : Literal) → code < 2 ^ 32 → watcher_code (watcher_of_code code blocker) ≡ code
watcher_code-of_code code blocker fits = grind arith
