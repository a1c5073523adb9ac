-- Each is one of the variables.
use Rattle.flip_literals.specs.Walks.{AreVars}
use Rattle.flip_bench.proofs.rounds.all_vars.Given as goal

abbrev pub invariant-loop-var : goal.invariant-loop-var
invariant-loop-var l = AreVars l.vars l.list.items
