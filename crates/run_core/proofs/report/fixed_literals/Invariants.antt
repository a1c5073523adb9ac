use Rattle.std.proofs.Common.{◌≡◌}
use Rattle.board_core.specs.Laws.{fixed_literals}
use Rattle.model_store.specs.Stores.{model_at}
use Rattle.run_core.proofs.report.fixed_literals.Given as goal

abbrev pub invariant-loop-place : goal.invariant-loop-place
invariant-loop-place l = l.fixes.items ≡ fixed_literals (model_at l.models 0) l.words l.place
