use Rattle.std.proofs.Common.{◌≡◌, [], take}
use Rattle.lrat_checker.specs.Checking.{StandsFor}
use Rattle.lrat_checker.proofs.checker.Checker.new.Given as goal

-- the checker stands for the formula of the clauses so far
abbrev pub invariant-loop-i : goal.invariant-loop-i
invariant-loop-i l = StandsFor l.checker (record (l.formula) { clauses = take l.i l.formula.clauses }) []
