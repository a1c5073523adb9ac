use Rattle.std.proofs.Common.{◌≡◌, ℕ, ◌<◌}
use Rattle.board_core.specs.Words.{open_at}
use Rattle.run_core.proofs.report.first_open.Given as goal

abbrev pub invariant-loop-var : goal.invariant-loop-var
invariant-loop-var l = (x : ℕ) → 0 < x → x < l.var → open_at l.words x ≡ 0
