-- The literals of so many variables were looked at.
use Rattle.std.proofs.Common.{◌≡◌, filter}
use Rattle.cnf_core.specs.Formulas.{true_literals}
use Rattle.model_store.specs.Stores.{model_at}
use Rattle.backbone_main.specs.Steps.Open.{is_unmarked}
use Rattle.backbone_main.proofs.open_part.unmarked_literals.Given as goal

abbrev pub invariant-loop-i : goal.invariant-loop-i
invariant-loop-i l = l.still.items ≡ filter (is_unmarked l.formula l.closed) (true_literals (model_at l.models 0) l.i)
