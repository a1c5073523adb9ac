-- The epochs of a query. A query is cut into epochs, in which 1,000, 2,000, 4,000 and so on clauses are learnt.
use Rattle.std.specs.Prelude.{ℕ, ◌-◌, ◌*◌, ◌^◌}

-- so many clauses were learnt in the query before an epoch, counted from 0
abbrev pub epoch_start : ℕ → ℕ
epoch_start epoch = 1000 * (2 ^ epoch - 1)
