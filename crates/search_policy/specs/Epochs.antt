-- Epochs of a query: how many clauses it has learnt, and in which epoch the next one is learnt.
use Rattle.std.specs.Prelude.{◌≡◌, ℕ, suc, ◌+◌, ◌<◌, ◌≤◌, ◌==◌, Bool, if◌then◌else◌}
use Rattle.cnf_core.specs.Epochs.{epoch_start}

pub record EpochState : Type 0 where
  pub epoch : ℕ
  pub count : ℕ

abbrev pub first_epoch : EpochState
first_epoch = record { epoch = 0; count = 0 }

-- whether the next clause is the last of its epoch
abbrev pub ends : EpochState → Bool
ends e = e.count + 1 == epoch_start (suc e.epoch)

-- the state behind one clause more
abbrev pub next_clause : EpochState → EpochState
next_clause e =
    if ends e then record { epoch = suc e.epoch; count = e.count + 1 } else record e { count = e.count + 1 }

-- the epoch is that of a clause learnt after so many
pub record IsInEpoch (e : EpochState) : Type 0 where
  pub begun : epoch_start e.epoch ≤ e.count
  pub unended : e.count < epoch_start (suc e.epoch)

-- an epoch, but the first, begins behind so many clauses
pub record IsEnd (count : ℕ) : Type 0 where
  pub epoch : ℕ
  pub is : count ≡ epoch_start (suc epoch)
