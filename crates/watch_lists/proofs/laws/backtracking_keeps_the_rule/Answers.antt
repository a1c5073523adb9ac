use Rattle.watch_lists.proofs.Kept.{ready_backtracked}
use Rattle.watch_lists.proofs.laws.backtracking_keeps_the_rule.Goals as goal

pub returns : goal.returns
returns c = ready_backtracked
