use Rattle.std.proofs.Common.{◌<◌}
use Rattle.search_policy.proofs.tests.epochs_end_behind_1000_3000_and_7000_clauses.Given as goal

abbrev pub invariant-loop-clause : goal.invariant-loop-clause
invariant-loop-clause g l = l.epochs.count < l.clause
