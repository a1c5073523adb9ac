-- The sequence of Luby, Sinclair and Zuckerman (1993), 1, 1, 2, 1, 1, 2, 4 and so on, and the restarts by it.
use Rattle.std.specs.Prelude.{ℕ, zero, suc, ◌+◌, ◌-◌, ◌*◌, ◌^◌, ◌==◌, nat_lt, min, Bool, if◌then◌else◌}

-- the term at a place from 1 to 2 ^ k - 1. The last of these has 2 ^ (k - 1), and the sequence begins anew behind each
-- place 2 ^ j - 1
unfoldable pub luby_upto : ℕ → ℕ → ℕ
luby_upto zero i = 1
luby_upto (suc k) i =
    if i == 2 ^ suc k - 1 then 2 ^ k
    else (if nat_lt i (2 ^ k) then luby_upto k i else luby_upto k (i + 1 - 2 ^ k))

-- the term at a place from 1 to 2 ^ 41 - 1
abbrev pub luby_term : ℕ → ℕ
luby_term i = luby_upto 41 i

-- the place in the sequence, and how many conflicts there were since the last restart
pub record RestartState : Type 0 where
  pub place : ℕ
  pub count : ℕ

abbrev pub first_restart : RestartState
first_restart = record { place = 1; count = 0 }

-- whether the next conflict makes a restart due: the hundredfold of the term is reached
abbrev pub is_due : RestartState → Bool
is_due s = s.count + 1 == 100 * luby_term s.place

-- the state behind one conflict more. The place stays at the term 2 ^ 40
abbrev pub next_restart : RestartState → RestartState
next_restart s =
    if is_due s then record { place = min (s.place + 1) (2 ^ 40); count = 0 } else record s { count = s.count + 1 }
