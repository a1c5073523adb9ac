use Rattle.cnf_core.proofs.Gathering.{IsGathering}
use Rattle.cnf_core.proofs.formula.Formula.of_numbers.Given as goal

-- the numbers before the place are gathered
abbrev pub invariant-loop-place : goal.invariant-loop-place
invariant-loop-place l = IsGathering l.vars l.numbers l.place l.formula l.lits.items
